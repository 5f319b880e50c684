-- What calls of `next` of an `IterSorted` give in a row.
use Rattle.dary_heap.proofs.{◌≡◌, ◌≢◌, ℕ, ◌+◌, ◌<◌, List, [], ◌∷◌, ◌++◌, Option, None, is_some, true, length, map, inl, inr, cases_lt, refl, ap, subst, arith, Contains, Yields, Ordering, Greater}
use Rattle.dary_heap.proofs.{IsPermutation, IsPermutation-cons, IsPermutation-refl, IsPermutation-sym, IsPermutation-trans, Contains-append_left, Contains-append_right}
use Rattle.dary_heap.proofs.{Contains-cases, came_later, IsDescending, IsGivenDescending}
use Rattle.dary_heap.specs.IterSorted.{GivesGreatest, GivesNext, InOrder}

module _ {A T : Type 0} (shown : A → T) (cmp : T → T → Ordering) (D : ℕ) where
  abbrev steps : InOrder T → Option A → InOrder T → Type 0
  steps = GivesNext shown cmp D

  -- what was given and what is left are the items that were not given before
  listed : (from : InOrder T) (xs : List A) (later : InOrder T) → Yields steps from xs later → IsPermutation from.rest (map shown xs ++ later.rest)
  listed from [] later run = subst (λ (it : InOrder T). IsPermutation from.rest it.rest) run (IsPermutation-refl from.rest)
  listed from (x ∷ xs) later run = IsPermutation-trans _ _ _ run.1.bag (IsPermutation-cons (shown x) run.0.rest (map shown xs ++ later.rest) (listed run.0 xs later run.2))

  first_exceeds : (from : InOrder T) (x : A) (xs : List A) (later : InOrder T) → Yields steps from (x ∷ xs) later → (y : T) → Contains (map shown xs ++ later.rest) y → cmp y (shown x) ≢ Greater
  first_exceeds from x xs later run y in' =
      run.1.greatest.none_above y (came_later (shown x) (map shown xs ++ later.rest) from.rest y (IsPermutation-sym _ _ (listed from (x ∷ xs) later run)) in')

  descend : (from : InOrder T) (xs : List A) (later : InOrder T) → Yields steps from xs later → IsDescending cmp (map shown xs)
  descend from [] later run = tt
  descend from (x ∷ xs) later run = (
    λ y in'. first_exceeds from x xs later run y (Contains-append_left (map shown xs) later.rest y in'),
    descend run.0 xs later run.2,
  )

  none_greater : (from : InOrder T) (xs : List A) (later : InOrder T) → Yields steps from xs later → (x y : T) → Contains (map shown xs) x → Contains later.rest y → cmp y x ≢ Greater
  none_greater from [] later run x y in' there = absurd (omega (arith, in'.1))
  none_greater from (z ∷ xs) later run x y in' there = elim (Contains-cases (shown z) (map shown xs) x in') [
    | inl here ↦ subst (λ v. cmp y v ≢ Greater) here (first_exceeds from z xs later run y (Contains-append_right (map shown xs) later.rest y there))
    | inr after ↦ none_greater run.0 xs later run.2 x y after there
  ]

  part : (from : InOrder T) (xs : List A) (later : InOrder T) → Yields steps from xs later → IsGivenDescending cmp from.rest (map shown xs) later.rest
  part from xs later run = record { bag = listed from xs later run; descending = descend from xs later run; none_greater = none_greater from xs later run }

  count : (from : InOrder T) (xs : List A) (later : InOrder T) → Yields steps from xs later → later.left + length xs ≡ from.left
  count from [] later run = let same : from.left ≡ later.left = ap (λ (it : InOrder T). it.left) run in omega (arith, same)
  count from (x ∷ xs) later run =
      let some : 0 < from.left = run.1.variant.0 refl in
      omega (arith, some, run.1.left, count run.0 xs later run.2)

  -- where none comes, none was left to give
  ended : (from to : InOrder T) → steps from None to → from.left ≡ 0
  ended from to step = elim (cases_lt 0 from.left) [
    | inl some ↦ let none : is_some {T = A} None ≡ true = step.variant.1 some in absurd (cc)
    | inr none ↦ omega (arith, none)
  ]

  pub gives_greatest : (from : InOrder T) → GivesGreatest shown cmp D from
  gives_greatest from = record {
    part = part from;
    count = count from;
    all = λ xs run. (omega (arith, count from xs run.1.0 run.1.1, ended run.1.0 run.0 run.1.2), run.1.0.rest, part from xs run.1.0 run.1.1);
  }
