-- Calls that give a name an item: which room they use, and when they fail.
use Rattle.dary_heap.proofs.Common.{◌≡◌, ◌+◌, ◌<◌, ◌≤◌, Bool, refl, sym, ap, ◌∙◌, IsSome, None, is_some, true≢false}
use Rattle.std.specs.Map.{lookup}
use Rattle.std.specs.declared.result.Result.TheVariants.{Ok, Err}
use Rattle.named_heap.specs.Entries.{Named}
use Rattle.named_heap.specs.Storing.{Stores}

module _ {K T : Type 0} {eq : K → K → Bool} (name : K) (item : T) (old new : Named K T) where
  -- nothing is stored: the name has no item, and there was no room
  pub stores_nothing : {A : Type 0} (back : K × T) → back ≡ (name, item) → lookup (eq name) old.entries ≡ None → (0 < old.room → ⊥) → new.entries ≡ old.entries → new.comparisons ≡ old.comparisons →
      old.room ≤ new.room + 1 → Stores {A = A} eq name item old new (Err back)
  stores_nothing back is missing full same uncounted room =
      let bare : IsSome (lookup (eq name) old.entries) → ⊥ = λ some. true≢false (sym some ∙ ap is_some missing) in
      record {
        room = room;
        roomy = λ some. absurd (bare some);
        succeeds = λ some. absurd (full some);
        present = λ some. absurd (bare some);
        returned = is;
        unchanged = same;
        uncounted = uncounted;
      }

  -- the item is stored
  pub stores_it : {A : Type 0} (given : A) → old.room ≤ new.room + 1 → (IsSome (lookup (eq name) old.entries) → new.room ≡ old.room) → Stores eq name item old new (Ok given)
  stores_it given room roomy = record { room = room; roomy = roomy; succeeds = λ _. refl; present = λ _. refl; returned = tt; unchanged = tt; uncounted = tt }
