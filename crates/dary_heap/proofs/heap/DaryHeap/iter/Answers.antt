use Rattle.dary_heap.proofs.iter.Iterating.{runs_refs, runs_refs_back}
use Rattle.dary_heap.proofs.heap.DaryHeap.iter.Goals as goal

pub returns-clause-runs : goal.returns-clause-runs
returns-clause-runs g c = runs_refs

pub returns-clause-runs_back : goal.returns-clause-runs_back
returns-clause-runs_back g c = runs_refs_back
