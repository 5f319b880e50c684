use Rattle.dary_heap.proofs.Popping.{pops_give}
use Rattle.dary_heap.proofs.heap.DaryHeap.into_iter_sorted.Goals as goal

pub returns-clause-descending : goal.returns-clause-descending
returns-clause-descending g c = pops_give g.J.Judge.order g.row.D _
