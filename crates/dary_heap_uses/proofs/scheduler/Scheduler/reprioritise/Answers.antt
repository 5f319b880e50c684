use Rattle.dary_heap_uses.proofs.{numbered_either, reprioritised, rules}
use Rattle.dary_heap_uses.proofs.scheduler.Scheduler.reprioritise.Goals as goal

pub returns-clause-changed : goal.returns-clause-changed
returns-clause-changed g c =
    rw (← c.self.view_is) (reprioritised c.args.id c.args.priority c.self.inside.jobs c.update.new.self c.update.result (λ held left called. search rules) c.update.ensures.updates)

pub invariant_of-self : goal.invariant_of-self
invariant_of-self g c =
    numbered_either c.args.id c.args.priority c.self.inside.jobs c.update.new.self c.self.inside.came c.update.result
    (reprioritised c.args.id c.args.priority c.self.inside.jobs c.update.new.self c.update.result (λ held left called. search rules) c.update.ensures.updates) c.update.ensures.unchanged c.self.invariant
