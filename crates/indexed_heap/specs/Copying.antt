-- Copies of heaps.
use Rattle.std.specs.Prelude.{◌≡◌, ℕ}
use Rattle.std.specs.declared.cmp.Ordering.{Ordering}
use Rattle.dary_heap.specs.Building.{IsCopyOf}
use Rattle.indexed_heap.specs.Entries.{Indexed, by_item}
use Rattle.indexed_heap.specs.Iterating.{contents}

-- an entry with the same key and a clone of the item
abbrev pub clones_item : {T : Type 0} → (T → T → Type 0) → ℕ × T → ℕ × T → Type 0
clones_item is_clone entry copy = (copy.0 ≡ entry.0) × is_clone entry.1 copy.1

-- a copy of a heap: the same keys with clones of their items, built by a clone of its judge, and the same room for keys
pub record IsEntryCopy {T J : Type 0} (is_clone : T → T → Type 0) (is_judge_clone : J → J → Type 0) (count : J → ℕ) (cmp : T → T → Ordering) (D : ℕ) (heap copy : Indexed T) : Type 0 where
  pub copied : IsCopyOf (clones_item is_clone) is_judge_clone count (by_item cmp) D (contents heap) (contents copy)
  pub keys : copy.keys ≡ heap.keys

-- a heap whose copy doesn't fail: it has no room for keys, and a judge whose clone doesn't fail
pub record IsCopiedFreely {T J : Type 0} (is_infallible : J → Type 0) (count : J → ℕ) (heap : Indexed T) : Type 0 where
  pub keys : heap.keys ≡ 0
  pub judge : (judge : J) → count judge ≡ heap.comparisons → is_infallible judge
