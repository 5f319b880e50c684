-- A predicate that is asked about entries.
use Rattle.std.specs.Prelude.{◌≡◌, ℕ, Bool, List, [], ◌∷◌}
use Rattle.std.specs.Fn.{Called, Mut, Takes}
use denote.Ref.{Bor}

-- a call at the key of this entry and a reference to its item may return this answer, and leave the predicate so
pub record CalledAtEntry {F T : Type 0} (calls : Mut F (ℕ × (Bor T × Unit {0})) Bool) (f : F) (entry : ℕ × T) (answer : Bool) (after : F) : Type 0 where
  pub shown : Bor T
  pub shows : shown.now ≡ entry.1
  pub called : Called calls f (entry.0, (shown, tt)) answer after

module _ {F T : Type 0} (calls : Mut F (ℕ × (Bor T × Unit {0})) Bool) where
  -- f may be called on the key of this entry and a reference to its item
  abbrev pub TakesEntry : F → ℕ × T → Type 0
  TakesEntry f entry = (shown : Bor T) → shown.now ≡ entry.1 → Takes calls f (entry.0, (shown, tt))

  -- f may be called on each of these entries in turn, whatever it returns
  abbrev pub TakesEntriesInTurn : F → List (ℕ × T) → Type 0
  TakesEntriesInTurn f [] = Unit {0}
  TakesEntriesInTurn f (entry ∷ entries) = TakesEntry f entry × ((answer : Bool) (after : F) → CalledAtEntry calls f entry answer after → TakesEntriesInTurn after entries)
