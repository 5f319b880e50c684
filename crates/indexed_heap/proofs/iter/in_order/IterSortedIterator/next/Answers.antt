use Rattle.dary_heap.proofs.Common.{refl}
use Rattle.indexed_heap.proofs.InOrder.{shows_entry, shows_none}
use Rattle.indexed_heap.proofs.iter.in_order.IterSortedIterator.next.Goals.{in-Some, in-None}
use Rattle.indexed_heap.proofs.iter.in_order.IterSortedIterator.next.Goals as goal

pub returns-clause-steps : goal.returns-clause-steps
returns-clause-steps g c = rw (← c.self.view_is) (elim c.match-next.branch [
  | in-Some w ↦ rw w.result-is (shows_entry _ _ _ _ _ c.next.ensures.steps _ _ w.in-Some.is refl)
  | in-None w ↦ rw w.result-is (shows_none _ _ _ _ _ c.next.ensures.steps w.in-None.is)
])
