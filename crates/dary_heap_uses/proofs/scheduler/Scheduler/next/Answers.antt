use Rattle.dary_heap_uses.proofs.{[], first_left, numbered_left, ◌∷◌}
use Rattle.dary_heap_uses.proofs.scheduler.Scheduler.next.Goals as goal

pub invariant_of-self-2 : goal.invariant_of-self-2
invariant_of-self-2 g c = numbered_left _ (c.in_ok-entry.entry ∷ []) _ _ c.in_ok-entry.ensures.bag c.self.invariant

pub returns-clause-first : goal.returns-clause-first
returns-clause-first g c = first_left _ _ _ _ c.self.invariant c.in_ok-entry.ensures.bag c.in_ok-entry.ensures.greatest
