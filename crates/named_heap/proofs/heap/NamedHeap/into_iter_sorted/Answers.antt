use Rattle.named_heap.proofs.Popping.{entries_give}
use Rattle.named_heap.proofs.heap.NamedHeap.into_iter_sorted.Goals as goal

pub returns-clause-descending : goal.returns-clause-descending
returns-clause-descending g c = entries_give g.J.Judge.order g.row.D _
