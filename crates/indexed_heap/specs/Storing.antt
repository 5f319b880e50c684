-- Calls that store an item for a key: which room they make, and when they fail.
use Rattle.std.specs.Prelude.{◌≡◌, ◌⊎◌, ℕ, ◌+◌, ◌<◌, ◌≤◌, length, max, IfErr, IsOk, OnErr, OnOk}
use Rattle.std.specs.declared.result.Result.{Result}
use Rattle.indexed_heap.specs.Entries.{Indexed, IsAbsent, IsEntry}

-- an item was to be stored for this key: no room is lost, and no more is made than was missing; it fails only if some was missing and the key had no item, and then it gives the item back, and the entries stay
pub record Stores {T A : Type 0} (key : ℕ) (item : T) (old new : Indexed T) (result : Result A T) : Type 0 where
  pub capacity : old.capacity ≤ new.capacity
  pub keys : old.keys ≤ new.keys
  pub kept : length old.entries < old.capacity → new.capacity ≡ old.capacity
  pub keyed : key < old.keys → new.keys ≡ old.keys
  pub widened : OnOk result (new.keys ≡ max old.keys (key + 1))
  pub same_keys : OnErr result (new.keys ≡ old.keys)
  pub succeeds : length old.entries < old.capacity → key < old.keys → IsOk result
  pub present : (at : ℕ) → IsEntry old.entries at key → IsOk result
  pub roomy : (at : ℕ) → IsEntry old.entries at key → new.capacity ≡ old.capacity
  pub full : OnErr result (IsAbsent key old.entries × ((length old.entries ≡ old.capacity) ⊎ (old.keys ≤ key)))
  pub returned : IfErr result (λ back. back ≡ item)
  pub unchanged : OnErr result (new.entries ≡ old.entries)
  pub uncounted : OnErr result (new.comparisons ≡ old.comparisons)
