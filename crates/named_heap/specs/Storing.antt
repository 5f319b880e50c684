-- Calls that give a name an item: which room they use, and when they fail.
use Rattle.std.specs.Prelude.{◌≡◌, ◌+◌, ◌<◌, ◌≤◌, Bool, IsSome, IfErr, IsOk, OnErr}
use Rattle.std.specs.Map.{lookup}
use Rattle.std.specs.declared.result.Result.{Result}
use Rattle.named_heap.specs.Entries.{Named}

-- an item was to be stored for this name: it uses one place of the room at most, and none if the name had an item
-- it fails only if the name had none and there was no room; then it gives both back, and the entries stay
pub record Stores {K T A : Type 0} (eq : K → K → Bool) (name : K) (item : T) (old new : Named K T) (result : Result A (K × T)) : Type 0 where
  pub room : old.room ≤ new.room + 1
  pub roomy : IsSome (lookup (eq name) old.entries) → new.room ≡ old.room
  pub succeeds : 0 < old.room → IsOk result
  pub present : IsSome (lookup (eq name) old.entries) → IsOk result
  pub returned : IfErr result (λ back. back ≡ (name, item))
  pub unchanged : OnErr result (new.entries ≡ old.entries)
  pub uncounted : OnErr result (new.comparisons ≡ old.comparisons)
