-- What is left of a heap whose items a predicate was asked about.
use Rattle.std.specs.Prelude.{◌≡◌, ℕ, suc, ◌-◌, Bool, true, false, List, [], ◌∷◌, length}
use Rattle.std.specs.List.{items_where_true}
use Rattle.std.specs.List.Retain.{ReturnsInTurn}
use Rattle.dary_heap.specs.Bag.{IsSameBag}
use Rattle.dary_heap.specs.Bounds.{RisesWithin, mend_bound}
use Rattle.dary_heap.specs.Contents.{Contents}

-- how many answers come before the first no
abbrev pub first_no : List Bool → ℕ
first_no [] = 0
first_no (true ∷ answers) = suc (first_no answers)
first_no (false ∷ answers) = 0

-- f was asked once about each item, in the order in which they are stored, and those for which it returned true are left
pub record IsRetained {T F : Type 0} (calls : F → T → Bool → F → Type 0) (D : ℕ) (f : F) (old new : Contents T) : Type 0 where
  pub answers : List Bool
  pub after : F
  pub all : length answers ≡ length old.items
  pub asked : ReturnsInTurn calls f answers old.items after
  pub bag : IsSameBag (items_where_true answers old.items) new.items
  -- if it returned true for all, nothing changed
  pub unchanged : first_no answers ≡ length answers → new ≡ old
  -- otherwise the items from the first removed place on were mended
  pub counted : RisesWithin old.comparisons new.comparisons (mend_bound D (length new.items) (length new.items - first_no answers))
