use Rattle.dary_heap.proofs.Common.{◌≡◌, ℕ, ◌<◌, length, slice_get}
use Rattle.dary_heap_c.specs.Places.{AreRightOffPath, HaveKeys, IsFree}
use Rattle.dary_heap_c.proofs.moves.write_path.Given as goal

-- the places of the entries below are written, and what else was right still is
abbrev pub invariant-loop-at : goal.invariant-loop-at
invariant-loop-at g l = record {
  inside : l.at < length l.entries;
  long : length l.places ≡ length l.initial.places;
  right : HaveKeys (length l.places) l.entries → AreRightOffPath g.row.D l.low l.high l.entries l.initial.places
      → AreRightOffPath g.row.D l.at l.high l.entries l.places;
  others : (value : ℕ) → IsFree value l.entries → slice_get l.places value ≡ slice_get l.initial.places value;
}

abbrev pub decreases-loop-at : goal.decreases-loop-at
decreases-loop-at g l = l.at
