use Rattle.dary_heap_uses.proofs.{IsTaking, length, pops_bound, vec_capacity, vec_len, ◌+◌, ◌-◌, ◌≡◌, ◌≤◌}
use Rattle.dary_heap_uses.proofs.timers.TimerQueue.take_due.Given as goal

-- what was taken so far, room for the others, and what the pops cost
abbrev pub invariant-loop-timer : goal.invariant-loop-timer
invariant-loop-timer g l = record {
  taking : IsTaking l.now l.initial.self.set l.self.set l.initial.due.items l.due.items;
  room : vec_len l.due + length l.self.set ≤ vec_capacity l.due;
  kept : (l.self.room ≡ l.initial.self.room) × (l.self.names ≡ l.initial.self.names);
  rises : l.initial.self.comparisons ≤ l.self.comparisons;
  within : l.self.comparisons + pops_bound g.row.D (length l.self.set) ≤ l.initial.self.comparisons + pops_bound g.row.D (length l.initial.self.set);
}

abbrev pub decreases-loop-timer : goal.decreases-loop-timer
decreases-loop-timer g l = vec_capacity l.due - vec_len l.due
