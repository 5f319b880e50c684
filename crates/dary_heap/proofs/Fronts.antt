-- Which item is the first once an item came in.
use Rattle.dary_heap.proofs.Common.{◌≡◌, ◌≢◌, ℕ, inl, inr, zero, suc, ◌<◌, List, [], ◌∷◌, ◌++◌, length, refl, sym, ap, ◌∙◌, subst, arith, Some, slice_get, Contains, IsPermutation, if◌then◌else◌}
use Rattle.dary_heap.proofs.Common.{length-append, slice_get_within, Contains-append_cases, Contains-push, IsPermutation-refl, IsPermutation-sym, Contains-permutation, length_permutation}
use Rattle.dary_heap.proofs.Common.{IsTotalOrder, is_gt, Ordering, Greater, IsHeapOrdered, StaysFirst, IsState, IsSameState, front, front_with}
use Rattle.dary_heap.proofs.Order.{slice_get-append, first_is_greatest, not_greater-trans, read, slice_get-push}

-- the one item of a list
pub alone : {X : Type 0} (x m : X) → Contains (x ∷ []) m → x ≡ m
alone x m (zero, within, is) = is
alone x m (suc k, within, is) = absurd (omega arith)

-- a heap is a state
pub ordered_state : {X : Type 0} {cmp : X → X → Ordering} → IsTotalOrder cmp → (D : ℕ) (xs : List X) → IsHeapOrdered cmp D xs → IsState cmp xs
ordered_state total D xs ordered = record { greatest = first_is_greatest total D xs ordered }

pub same_state : {X : Type 0} (old new : List X) → new ≡ old → IsSameState old new
same_state old new same = subst (IsSameState old) (sym same) (record { bag = IsPermutation-refl old; first = refl })

-- the front of a heap to which x came at the end and went up
module _ {X : Type 0} {cmp : X → X → Ordering} (total : IsTotalOrder cmp) (D : ℕ) (x : X) (ws zs : List X) (bag : IsPermutation ws zs) (ordered : IsHeapOrdered cmp D zs) where
  -- the first of the heap, which is one of those
  top : (xs : List X) → ws ≡ xs ++ x ∷ [] → (m : X) × (slice_get zs 0 ≡ Some m) × Contains (xs ++ x ∷ []) m × (cmp x m ≢ Greater)
  top xs is =
      let first = read zs 0 (omega (arith, length_permutation ws zs bag, ap length is, length-append xs (x ∷ []))) in
      let greatest = first_is_greatest total D zs ordered first.0 first.1 in
      let there : Contains ws first.0 = Contains-permutation zs ws first.0 (IsPermutation-sym ws zs bag) greatest.occurs in
      let came : Contains ws x = subst (λ l. Contains l x) (sym is) (Contains-push xs x) in
      (first.0, first.1, subst (λ l. Contains l first.0) is there, greatest.none_above x (Contains-permutation ws zs x bag came))

  above : (xs : List X) (f : X) → slice_get xs 0 ≡ Some f → IsHeapOrdered cmp D xs → ws ≡ xs ++ x ∷ [] → cmp x f ≡ Greater → slice_get zs 0 ≡ Some x
  above xs f first before is over =
      let t = top xs is in
      elim (Contains-append_cases xs (x ∷ []) t.0 t.2) [
        | inl old ↦ absurd (not_greater-trans total x t.0 f t.3 ((first_is_greatest total D xs before f first).none_above t.0 old) over)
        | inr new ↦ t.1 ∙ ap Some (sym (alone x t.0 new))
      ]

  below : (xs : List X) (f : X) → slice_get xs 0 ≡ Some f → ws ≡ xs ++ x ∷ [] → StaysFirst cmp (length xs) ws zs → cmp x f ≢ Greater → slice_get zs 0 ≡ Some f
  below xs f first is stays under =
      let within : 0 < length xs = slice_get_within xs 0 f first in
      stays.stays f x (ap (λ l. slice_get l 0) is ∙ slice_get-append xs (x ∷ []) 0 within ∙ first) (ap (λ l. slice_get l (length xs)) is ∙ slice_get-push xs x) under

  by_test : (xs : List X) (f : X) → slice_get xs 0 ≡ Some f → IsHeapOrdered cmp D xs → ws ≡ xs ++ x ∷ [] → StaysFirst cmp (length xs) ws zs → (r : Ordering) → cmp x f ≡ r →
      slice_get zs 0 ≡ Some (if is_gt r then x else f)
  by_test xs f first before is stays Greater e = above xs f first before is e
  by_test xs f first before is stays r e = below xs f first is stays (λ g. cc)

  pub pushed_front : (xs : List X) → IsHeapOrdered cmp D xs → ws ≡ xs ++ x ∷ [] → StaysFirst cmp (length xs) ws zs → front zs ≡ Some (front_with cmp x (front xs))
  pushed_front [] before is stays = let t = top [] is in t.1 ∙ ap Some (sym (alone x t.0 t.2))
  pushed_front (f ∷ xs) before is stays = by_test (f ∷ xs) f refl before is stays (cmp x f) refl
