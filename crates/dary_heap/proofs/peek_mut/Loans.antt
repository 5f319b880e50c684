-- The items of a heap whose first is on loan, and what sifting it down tells of them.
use Rattle.dary_heap.proofs.{◌≡◌, ◌↔◌, ℕ, zero, suc, ◌+◌, ◌-◌, ◌*◌, ◌<◌, ◌≤◌, Bool, true, false, List, [], ◌∷◌, length, refl, sym, ap, ◌∙◌, subst, arith, Some, IsTrue, slice_get, Contains}
use Rattle.dary_heap.proofs.{slice_get_within, get_or_from_slice_get, OnFalse, IsTotalOrder, Ordering, RisesWithin, sink_bound, arity, depth, IsHeapOrdered, HasGreaterChild, IsExceeded, depth-zero}
use Rattle.dary_heap.proofs.{first_is_greatest, Contains-later}

-- sifting down one item alone compares nothing
pub lone_uncounted : (D n a b : ℕ) → n ≡ 1 → RisesWithin a b (sink_bound D n) → b ≡ a
lone_uncounted D n a b one h =
    let within : b ≤ a + arity D * depth D 0 = subst (λ k. b ≤ a + arity D * depth D (k - 1)) one h.within in
    omega (arith, h.rises, rw (depth-zero D) at within)

-- one item alone is exceeded by none
pub lone_unexceeded : {X : Type 0} (cmp : X → X → Ordering) (xs : List X) → length xs ≡ 1 → IsExceeded cmp xs → ⊥
lone_unexceeded cmp [] one over = over
lone_unexceeded cmp (held ∷ []) one over = absurd (omega (arith, over.1.1))
lone_unexceeded cmp (held ∷ next ∷ rest) one over = absurd (omega (arith, one))

-- an item behind the first
later : {X : Type 0} (held : X) (rest : List X) (place : ℕ) (x : X) → 0 < place → slice_get (held ∷ rest) place ≡ Some x → Contains rest x
later held rest zero x up is = absurd (omega arith)
later held rest (suc k) x up is = (k, slice_get_within rest k x is, get_or_from_slice_get rest k x x is)

module _ {X : Type 0} {cmp : X → X → Ordering} (D : ℕ) where
  -- a child that exceeds the first item is one of the rest that does
  exceeds : (xs : List X) → HasGreaterChild cmp D 0 xs → IsExceeded cmp xs
  exceeds [] h = let none = h.held_is in cc
  exceeds (held ∷ rest) h =
      let first : h.held ≡ held = (let is : Some held ≡ Some h.held = h.held_is in cc) in
      let in' = later held rest h.child h.item h.above h.item_is in
      (h.item, in', ap (cmp h.item) (sym first) ∙ h.greater)

  -- no item exceeds the first of a heap
  pub none_exceeds : IsTotalOrder cmp → (xs : List X) → IsHeapOrdered cmp D xs → IsExceeded cmp xs → ⊥
  none_exceeds total [] ordered over = over
  none_exceeds total (held ∷ rest) ordered over =
      let first = first_is_greatest total D (held ∷ rest) ordered held refl in
      first.none_above over.0 (Contains-later held rest over.0 over.1) over.2

  -- the first item was sifted down, and the sift told whether it moved
  pub sunk_unmoved : (xs new : List X) (moved : Bool) → (IsTrue moved ↔ HasGreaterChild cmp D 0 xs) → OnFalse moved (new ≡ xs) → (IsExceeded cmp xs → ⊥) → new ≡ xs
  sunk_unmoved xs new true says still none = absurd (none (exceeds xs (says.0 refl)))
  sunk_unmoved xs new false says still none = still

  pub sunk_moved : IsTotalOrder cmp → (xs new : List X) (moved : Bool) → (IsTrue moved ↔ HasGreaterChild cmp D 0 xs) → OnFalse moved (new ≡ xs) → IsHeapOrdered cmp D new → IsTrue moved ↔
      IsExceeded cmp xs
  sunk_moved total xs new true says still ordered = (λ m. exceeds xs (says.0 m), λ over. refl)
  sunk_moved total xs new false says still ordered = (λ m. exceeds xs (says.0 m), λ over. absurd (none_exceeds total xs (subst (IsHeapOrdered cmp D) still ordered) over))
