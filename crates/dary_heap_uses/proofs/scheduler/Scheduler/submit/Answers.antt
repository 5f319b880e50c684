use Rattle.dary_heap_uses.proofs.{entries_of, numbered_left, numbered_more}
use Rattle.dary_heap_uses.proofs.scheduler.Scheduler.submit.Goals as goal

pub invariant_of-self : goal.invariant_of-self
invariant_of-self g c = numbered_left _ (entries_of c.args.id c.in-Ok.before) _ _ c.in-Ok.ensures.gets.bag (numbered_more _ _ c.self.invariant)
