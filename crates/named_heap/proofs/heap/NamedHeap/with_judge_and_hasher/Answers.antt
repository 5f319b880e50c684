use Rattle.named_heap.proofs.Naming.{none_named}
use Rattle.named_heap.proofs.heap.NamedHeap.with_judge_and_hasher.Goals as goal

pub invariant_of-result : goal.invariant_of-result
invariant_of-result g c = none_named c.with_hasher.result.keys c.with_judge.result.entries c.with_hasher.ensures.unique c.with_hasher.ensures.empty c.with_judge.ensures.entries
