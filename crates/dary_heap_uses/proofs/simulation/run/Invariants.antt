use Rattle.dary_heap_uses.proofs.{IsRunning, ◌≤◌}
use Rattle.dary_heap_uses.proofs.simulation.run.Given as goal

-- so many steps led here, and there is as much room or more
abbrev pub invariant-loop-handled : goal.invariant-loop-handled
invariant-loop-handled g l = record {
  running : IsRunning g.H.Handler.handles l.end l.handled (l.initial.events.set, l.initial.handler) (l.events.set, l.handler);
  grows : (l.initial.events.room ≤ l.events.room) × (l.initial.events.names ≤ l.events.names);
}
