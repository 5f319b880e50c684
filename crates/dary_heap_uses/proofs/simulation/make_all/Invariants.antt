use Rattle.dary_heap_uses.proofs.{FoldsTo, IsMade, take, ◌≤◌}
use Rattle.dary_heap_uses.proofs.simulation.make_all.Given as goal

-- the changes so far were made, and there is as much room or more
abbrev pub invariant-loop-made : goal.invariant-loop-made
invariant-loop-made g l = record {
  made : FoldsTo IsMade l.initial.events.set (take l.made l.changes) l.events.set;
  grows : (l.initial.events.room ≤ l.events.room) × (l.initial.events.names ≤ l.events.names);
}
