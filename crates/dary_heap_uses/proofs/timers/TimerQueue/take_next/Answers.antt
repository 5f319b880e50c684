use Rattle.dary_heap_uses.proofs.{arith, first_of}
use Rattle.dary_heap_uses.proofs.timers.TimerQueue.take_next.Goals as goal

-- if the first timer is for a later moment, so is each
pub returns-then-now-moment-clause-none_due : goal.returns-then-now-moment-clause-none_due
returns-then-now-moment-clause-none_due g c = let first = first_of c.self.inside.waiting.entries _ c.self.invariant c.in_ok-moment.ensures.greatest in grind arith

pub returns-clause-first : goal.returns-clause-first
returns-clause-first g c = rw (← c.self.view_is) (first_of _ _ c.self.invariant c.in_ok-name.ensures.greatest)
