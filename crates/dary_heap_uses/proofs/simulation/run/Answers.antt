use Rattle.dary_heap_uses.proofs.{Step, arith, one_more, take_all}
use Rattle.dary_heap_uses.proofs.simulation.run.Goals as goal

pub returns-then-made-len-clause-stopped : goal.returns-then-made-len-clause-stopped
returns-then-made-len-clause-stopped g c =
    let before = c.loop-handled.invariant.running in
    let next = c.in-Some.ensures in
    let changed = rw c.deref.ensures.value at c.make_all-made.ensures.made in
    record {
      steps = before.steps;
      mid = (c.loop-handled.events.set, c.loop-handled.handler);
      event = (c.in-Some.name, c.in-Some.moment);
      allowed = omega (arith, before.many);
      run = before.run;
      last = record { left = c.take_next.new.self.set; first = next.first; up_to_end = next.due; taken = next.taken; handled = c.handle-changes.ensures.handled; changed = changed };
      missing = omega arith;
    }

pub loop-handled-preserved : goal.loop-handled-preserved
loop-handled-preserved g c =
    let next = c.in-Some.ensures in
    let changes = c.handle-changes.result.items in
    let handled = c.handle-changes.ensures.handled in
    let changed = rw (c.deref.ensures.value, take_all c.make_all-made.result changes (omega arith)) at c.make_all-made.ensures.made in
    let step : Step = record { event = (c.in-Some.name, c.in-Some.moment); changes = changes } in
    record {
      running = one_more g.H.Handler.handles c.args.end _ _ _ step _ c.loop-handled.invariant.running
          (record { left = c.take_next.new.self.set; first = next.first; up_to_end = next.due; taken = next.taken; handled = handled; changed = changed }) c.handle-changes.ensures.not_before;
      grows = (omega (arith, next), omega (arith, next));
    }
