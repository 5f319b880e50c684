use Rattle.dary_heap_uses.proofs.{arith, length_permutation, one_taken, ◌∙◌}
use Rattle.dary_heap_uses.proofs.timers.TimerQueue.take_due.Goals as goal

pub loop-timer-preserved : goal.loop-timer-preserved
loop-timer-preserved g c =
    let before = c.loop-timer.invariant in
    let found = c.in-Some.ensures in
    record {
      taking = rw c.push_reserved.ensures.items (one_taken before.taking c.in-Some.timer _ found.first found.due found.taken);
      room = omega (arith, length_permutation _ _ found.taken);
      kept = (found.room ∙ before.kept.0, found.names ∙ before.kept.1);
      rises = omega (arith, found.counted.rises);
      within = grind (arith, length_permutation _ _ found.taken, found.counted.within);
    }
