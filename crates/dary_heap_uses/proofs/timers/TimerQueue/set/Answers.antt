use Rattle.dary_heap_uses.proofs.{InsertsWithin-map, IsEntry-map, arith, gets_named}
use Rattle.dary_heap_uses.proofs.timers.TimerQueue.set.Goals as goal

pub returns-in_default-clause-roomy : goal.returns-in_default-clause-roomy
returns-in_default-clause-roomy g c = rw (← c.self.view_is) (λ at h. c.insert.ensures.stores.roomy at (IsEntry-map (λ timer. timer.0) c.args.name at c.self.inside.waiting.entries h))

pub returns-clause-set : goal.returns-clause-set
returns-clause-set g c = grind (arith, gets_named)

pub returns-clause-counted : goal.returns-clause-counted
returns-clause-counted g c = rw (← c.self.view_is) (InsertsWithin-map (λ timer. timer.0) g.row.D c.args.name _ _ _ c.in-Ok.ensures.counted)

pub returns-clause-roomy : goal.returns-clause-roomy
returns-clause-roomy g c = rw (← c.self.view_is) (λ at h. c.insert.ensures.stores.roomy at (IsEntry-map (λ timer. timer.0) c.args.name at c.self.inside.waiting.entries h))
