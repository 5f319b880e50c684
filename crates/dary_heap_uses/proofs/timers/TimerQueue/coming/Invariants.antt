use Rattle.dary_heap_uses.proofs.{map, vec_capacity, vec_len, ◌+◌, ◌≡◌, ◌≤◌}
use Rattle.dary_heap_uses.proofs.Taking.{shown_timer}
use Rattle.dary_heap_uses.proofs.timers.TimerQueue.coming.Given as goal

-- the timers that were given stand in the list, and there is room for the others
abbrev pub invariant-loop-name : goal.invariant-loop-name
invariant-loop-name g l = record {
  written : l.coming.items ≡ map shown_timer l.yielded;
  room : vec_len l.coming + l.name-iterator.left ≤ vec_capacity l.coming;
}
