use Rattle.dary_heap.proofs.Common.{◌≡◌, ℕ, ◌<◌, Some, length, slice_get}
use Rattle.indexed_heap.proofs.heap.table.write_places.Given as goal

abbrev pub invariant-loop-place : goal.invariant-loop-place
invariant-loop-place g l = record {
  written : (i : ℕ) (entry : ℕ × g.row.T.Denot) → i < l.place → slice_get l.entries i ≡ Some entry → slice_get l.places entry.0 ≡ Some i;
  long : length l.places ≡ length l.initial.places;
}
