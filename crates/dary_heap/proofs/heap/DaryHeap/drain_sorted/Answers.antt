use Rattle.dary_heap.proofs.Popping.{drains_give, keeps_heap_along}
use Rattle.dary_heap.proofs.heap.DaryHeap.drain_sorted.Goals as goal

pub returns-clause-stays : goal.returns-clause-stays
returns-clause-stays g c = keeps_heap_along g.J.Judge.order _

pub returns-clause-descending : goal.returns-clause-descending
returns-clause-descending g c = drains_give g.J.Judge.order _
