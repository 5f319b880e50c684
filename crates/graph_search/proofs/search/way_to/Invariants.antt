use Rattle.std.proofs.Common.{◌≡◌, ℕ, ◌<◌, ◌≤◌, ◌-◌, Some, length, slice_get}
use Rattle.graph_search.specs.Searching.{AreReadBack}
use Rattle.graph_search.proofs.search.way_to.Given as goal

abbrev pub invariant-loop-place : goal.invariant-loop-place
invariant-loop-place g l = record {
  within : l.place < length l.taken.items;
  slots : (k i : ℕ) (u : g.row.N.Denot) → k ≤ l.place → slice_get l.taken.items k ≡ Some i → slice_get l.fn.names.keys i ≡ Some u → slice_get l.slots.items i ≡ Some (Some u);
  read : AreReadBack l.fn.names.keys l.reached.items l.taken.items (length l.taken.items - 1) l.way.items l.place;
}

abbrev pub decreases-loop-place : goal.decreases-loop-place
decreases-loop-place g l = l.place
