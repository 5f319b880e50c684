use Rattle.std.proofs.Common.{◌≡◌, ◌++◌, Some, map, length, reverse}
use Rattle.graph_search.proofs.search.slots_of.Given as goal

abbrev pub invariant-loop-name : goal.invariant-loop-name
invariant-loop-name g l = map Some l.fn.names.keys ≡ map Some l.names.keys ++ reverse l.slots.items

abbrev pub decreases-loop-name : goal.decreases-loop-name
decreases-loop-name g l = length l.names.keys
