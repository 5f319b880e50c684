-- What an entry of `iter_sorted` shows.
use Rattle.dary_heap.proofs.Common.{◌≡◌, ℕ, ◌∷◌, Option, Some, None, refl, sym, subst, Ordering, Bor, IsGreatest, IsSameBag}
use Rattle.dary_heap.specs.IterSorted.{GivesNext, InOrder, lent}
use Rattle.indexed_heap.specs.Iterating.{shown}

module _ {T : Type 0} (cmp : ℕ × T → ℕ × T → Ordering) (D : ℕ) (old new : InOrder (ℕ × T)) (given : Option (Bor (ℕ × T))) (step : GivesNext lent cmp D old given new) where
  -- an entry of which the key and a reference to the item are given is given
  pub shows_entry : (entry : Bor (ℕ × T)) (item : ℕ × Bor T) → given ≡ Some entry → shown item ≡ entry.now → GivesNext shown cmp D old (Some item) new
  shows_entry entry item is same =
      let one : GivesNext lent cmp D old (Some entry) new = subst (λ r. GivesNext lent cmp D old r new) is step in
      record {
        variant = (λ _. one.variant.0 refl, λ _. refl);
        greatest = subst (IsGreatest cmp old.rest) (sym same) one.greatest;
        bag = subst (λ value. IsSameBag old.rest (value ∷ new.rest)) (sym same) one.bag;
        given = one.given;
        left = one.left;
        counted = one.counted;
        room = one.room;
        unchanged = tt;
      }

  pub shows_none : given ≡ None → GivesNext shown cmp D old None new
  shows_none is =
      let none : GivesNext lent cmp D old None new = subst (λ r. GivesNext lent cmp D old r new) is step in
      record { variant = none.variant; greatest = tt; bag = tt; given = tt; left = none.left; counted = none.counted; room = none.room; unchanged = none.unchanged }
