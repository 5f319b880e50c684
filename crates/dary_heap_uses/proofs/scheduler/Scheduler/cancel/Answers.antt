use Rattle.dary_heap_uses.proofs.{entries_of, numbered_left}
use Rattle.dary_heap_uses.proofs.scheduler.Scheduler.cancel.Goals as goal

pub invariant_of-self : goal.invariant_of-self
invariant_of-self g c = numbered_left c.self.inside.jobs.entries (entries_of c.args.id c.remove.result) _ _ c.remove.ensures.loses.bag c.self.invariant
