use Rattle.indexed_heap.proofs.Iterating.{shows_in_order, shows_in_reverse}
use Rattle.indexed_heap.proofs.heap.IndexedHeap.iter.Goals as goal

pub returns-clause-runs : goal.returns-clause-runs
returns-clause-runs g c = shows_in_order

pub returns-clause-runs_back : goal.returns-clause-runs_back
returns-clause-runs_back g c = shows_in_reverse
