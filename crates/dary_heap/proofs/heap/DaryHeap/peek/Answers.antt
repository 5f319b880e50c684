use Rattle.dary_heap.proofs.{slice_get, ap, ◌∙◌, shown_bound, peeked}
use Rattle.dary_heap.proofs.heap.DaryHeap.peek.Goals as goal

pub returns-clause-greatest : goal.returns-clause-greatest
returns-clause-greatest g c = rw (← c.self.view_is) (peeked g.met.J.Judge.total g.row.D _ c.self.invariant c.first.result (c.first.ensures.value ∙ ap (λ xs. slice_get xs 0) c.as_slice.ensures.value))

pub returns-clause-above_all : goal.returns-clause-above_all
returns-clause-above_all g c = shown_bound g.met.J.Judge.total _ c.first.result (returns-clause-greatest g c)
