use Rattle.named_heap.proofs.Iterating.{shows_in_order, shows_in_reverse}
use Rattle.named_heap.proofs.Naming.{keyed_of, length_of}
use Rattle.named_heap.proofs.heap.NamedHeap.iter.Goals as goal

pub invariant_of-result : goal.invariant_of-result
invariant_of-result g c = rw c.as_slice.ensures.keys (rw c.iter.ensures.entries (keyed_of c.self.inside.names.keys c.self.inside.heap.entries c.self.invariant))

pub returns-clause-fits : goal.returns-clause-fits
returns-clause-fits g c =
    let long = length_of c.self.inside.names.keys c.self.inside.heap.entries c.self.invariant in
    let fits = rw c.iter.ensures.entries at c.iter.ensures.fits in
    rw c.as_slice.ensures.keys (rw c.iter.ensures.entries (rw long fits))

pub returns-clause-runs : goal.returns-clause-runs
returns-clause-runs g c = shows_in_order

pub returns-clause-runs_back : goal.returns-clause-runs_back
returns-clause-runs_back g c = shows_in_reverse
