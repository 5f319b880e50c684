use Rattle.named_heap.proofs.Popping.{is_pop, pop_goes}
use Rattle.named_heap.proofs.iter.sorted.IntoIterSortedIterator.next.Goals as goal

pub returns-clause-steps : goal.returns-clause-steps
returns-clause-steps g c =
    let pop = c.pop.ensures in
    let is = is_pop c.self.inside.heap c.pop.new.self c.pop.result pop.first pop.greatest pop.bag pop.counted pop.sound pop.unchanged in
    rw (← c.self.view_is) (record { pop = is; room = pop.room; unchanged = pop.unchanged })

pub returns-clause-goes : goal.returns-clause-goes
returns-clause-goes g c =
    let pop = c.pop.ensures in
    let len = (is_pop c.self.inside.heap c.pop.new.self c.pop.result pop.first pop.greatest pop.bag pop.counted pop.sound pop.unchanged).len in
    rw (← c.self.view_is) (pop_goes _ (λ s. tt) _ _ c.pop.result len pop.variant.0)
