use Rattle.dary_heap.proofs.iter.InOrder.{gives_greatest}
use Rattle.indexed_heap.specs.Entries.{by_item}
use Rattle.indexed_heap.specs.Iterating.{shown}
use Rattle.indexed_heap.proofs.heap.IndexedHeap.iter_sorted_with.Goals as goal

pub returns-clause-starts : goal.returns-clause-starts
returns-clause-starts g c = rw (← c.self.view_is) c.in_ok-iter_sorted_with.ensures.starts

pub returns-clause-greatest : goal.returns-clause-greatest
returns-clause-greatest g c = gives_greatest shown (by_item g.J.Judge.order) g.row.D _
