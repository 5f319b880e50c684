-- What a bag holds once a value came to it, and which of it is a greatest. A bag from which one was taken is read the other way round. A greatest item bounds the others, in std's word for it.
use Rattle.dary_heap.proofs.Common.{◌≡◌, ◌≢◌, ◌⊎◌, ◌<◌, List, [], ◌∷◌, ◌++◌, length, Contains, false, Option, Some, None, IfSome, inl, inr, refl, ap, ◌∙◌, subst, arith, Contains-append_right}
use Rattle.dary_heap.proofs.Common.{Contains-append_cases, IsPermutation-sym, Contains-permutation, IsSameBag, front, IsTotalOrder, IsGreatest, AllByRecursion, is_lt, ordering_reverse, Ordering}
use Rattle.dary_heap.proofs.Common.{Less, Equal, Greater, Bor, IsSubBag, Bool, true, IsPermutation-refl, IsPermutation-trans, IsPermutation-cons, IsPermutation-to_front, IsPermutation-append_left, IsPermutation-append_comm, Contains-append_left, append-nil, append_assoc, sym, items_where_true}
use Rattle.std.proofs.lemmas.List.Sorted.{IsPermutation-append_right}
use Rattle.dary_heap.proofs.Fronts.{alone}
use Rattle.dary_heap.proofs.Order.{not_greater-self, not_greater-trans}
use Rattle.std.specs.BinaryHeap.{IsUpperBound}

-- an item of a list is its first or one of the others
pub Contains-cases : {X : Type 0} (x : X) (xs : List X) (y : X) → Contains (x ∷ xs) y → (x ≡ y) ⊎ Contains xs y
Contains-cases x xs y h = elim (Contains-append_cases (x ∷ []) xs y h) [
  | inl one ↦ inl (alone x y one)
  | inr later ↦ inr later
]

pub Contains-first : {X : Type 0} (x : X) (xs : List X) → Contains (x ∷ xs) x
Contains-first x xs = (0, omega arith, refl)

pub Contains-later : {X : Type 0} (x : X) (xs : List X) (y : X) → Contains xs y → Contains (x ∷ xs) y
Contains-later x xs y h = Contains-append_right (x ∷ []) xs y h

module _ {X : Type 0} where
  pub holds_none : (x : X) → Contains [] x → ⊥
  holds_none x h = let few : h.0 < 0 = h.1 in omega arith

  pub has_none : (xs : List X) → (0 < length xs → ⊥) → xs ≡ []
  has_none [] h = refl
  has_none (x ∷ xs) h = absurd (h (omega arith))

  pub came_first : (x : X) (xs ys : List X) → IsSameBag (x ∷ xs) ys → Contains ys x
  came_first x xs ys bag = Contains-permutation (x ∷ xs) ys x bag (Contains-first x xs)

  pub came_later : (x : X) (xs ys : List X) (y : X) → IsSameBag (x ∷ xs) ys → Contains xs y → Contains ys y
  came_later x xs ys y bag h = Contains-permutation (x ∷ xs) ys y bag (Contains-later x xs y h)

  pub came_alone : (x : X) (ys : List X) (y : X) → IsSameBag (x ∷ []) ys → Contains ys y → x ≡ y
  came_alone x ys y bag h = alone x y (Contains-permutation ys (x ∷ []) y (IsPermutation-sym (x ∷ []) ys bag) h)

  pub came_cases : (x : X) (xs ys : List X) (y : X) → IsSameBag (x ∷ xs) ys → Contains ys y → (x ≡ y) ⊎ Contains xs y
  came_cases x xs ys y bag h = Contains-cases x xs y (Contains-permutation ys (x ∷ xs) y (IsPermutation-sym (x ∷ xs) ys bag) h)

-- a heap has a front, or no item
pub front_cases : {X : Type 0} (xs : List X) → (xs ≡ []) ⊎ ((x : X) × (front xs ≡ Some x))
front_cases [] = inl refl
front_cases (x ∷ xs) = inr (x, refl)

module _ {X : Type 0} {cmp : X → X → Ordering} where
  -- an item that no greater one joins stays the greatest
  pub IsGreatest-stays : (x m : X) (items : List X) → IsGreatest cmp items m → cmp x m ≢ Greater → IsGreatest cmp (x ∷ items) m
  IsGreatest-stays x m items h under = record {
    occurs = Contains-later x items m h.occurs;
    none_above = λ y in'. elim (Contains-cases x items y in') [
      | inl same ↦ subst (λ (v : X). cmp v m ≢ Greater) same under
      | inr there ↦ h.none_above y there
    ];
  }

  module _ (total : IsTotalOrder cmp) where
    -- one item alone is the greatest
    pub greatest_alone : (x : X) → IsGreatest cmp (x ∷ []) x
    greatest_alone x = record { occurs = Contains-first x []; none_above = λ y in'. subst (λ (v : X). cmp v x ≢ Greater) (alone x y in') (not_greater-self total x) }

    -- an item that the greatest doesn't exceed is the greatest once it came
    pub IsGreatest-overtaken : (x m : X) (items : List X) → IsGreatest cmp items m → cmp m x ≢ Greater → IsGreatest cmp (x ∷ items) x
    IsGreatest-overtaken x m items h over = record {
      occurs = Contains-first x items;
      none_above = λ y in'. elim (Contains-cases x items y in') [
        | inl same ↦ subst (λ (v : X). cmp v x ≢ Greater) same (not_greater-self total x)
        | inr there ↦ not_greater-trans total y m x (h.none_above y there) over
      ];
    }

-- the items of xs are among those values
abbrev pub IsAmong : {X : Type 0} → List X → List X → Type 0
IsAmong {X} values xs = (x : X) → Contains xs x → Contains values x

module _ {X : Type 0} (values : List X) where
  pub IsAmong-cons : (x : X) (xs : List X) → Contains values x → IsAmong values xs → IsAmong values (x ∷ xs)
  IsAmong-cons x xs here h y in' = elim (Contains-cases x xs y in') [ inl e ↦ subst (Contains values) e here | inr there ↦ h y there ]

  pub IsAmong-tail : (x : X) (xs : List X) → IsAmong values (x ∷ xs) → IsAmong values xs
  IsAmong-tail x xs h y in' = h y (Contains-later x xs y in')

  pub IsAmong-append : (xs ys : List X) → IsAmong values xs → IsAmong values ys → IsAmong values (xs ++ ys)
  IsAmong-append xs ys h k y in' = elim (Contains-append_cases xs ys y in') [ inl first ↦ h y first | inr second ↦ k y second ]

  pub IsAmong-same : (xs ys : List X) → IsSameBag xs ys → IsAmong values xs → IsAmong values ys
  IsAmong-same xs ys same h y in' = h y (Contains-permutation ys xs y (IsPermutation-sym xs ys same) in')

  pub IsAmong-sub_bag : (xs ys : List X) → IsSubBag xs ys → IsAmong values ys → IsAmong values xs
  IsAmong-sub_bag xs ys sub h y in' = h y (Contains-permutation (xs ++ sub.0) ys y (IsPermutation-sym ys (xs ++ sub.0) sub.1) (Contains-append_left xs sub.0 y in'))

-- ---- sub-bags

module _ {X : Type 0} where
  pub IsSubBag-same : (xs ys : List X) → IsSameBag ys xs → IsSubBag xs ys
  IsSubBag-same xs ys same = ([], subst (λ l. IsSameBag ys l) (sym (append-nil xs)) same)

  pub IsSubBag-trans : (xs ys zs : List X) → IsSubBag xs ys → IsSubBag ys zs → IsSubBag xs zs
  IsSubBag-trans xs ys zs h k =
      let whole = IsPermutation-trans _ _ _ k.1 (IsPermutation-append_left k.0 ys (xs ++ h.0) h.1) in
      (h.0 ++ k.0, subst (λ l. IsSameBag zs l) (append_assoc xs h.0 k.0) whole)

  pub IsSubBag-front : (xs more : List X) → IsSubBag xs (xs ++ more)
  IsSubBag-front xs more = (more, IsPermutation-refl (xs ++ more))

  pub IsSubBag-tail : (x : X) (xs : List X) → IsSubBag xs (x ∷ xs)
  IsSubBag-tail x xs = (x ∷ [], IsPermutation-sym (xs ++ x ∷ []) (x ∷ xs) (IsPermutation-to_front xs x))

  pub IsSubBag-append : (xs ys more : List X) → IsSubBag xs ys → IsSubBag (xs ++ more) (ys ++ more)
  IsSubBag-append xs ys more h =
      let apart = subst (λ l. IsSameBag (ys ++ more) l) (append_assoc xs h.0 more) (IsPermutation-append_left more ys (xs ++ h.0) h.1) in
      let turned = IsPermutation-append_right xs (h.0 ++ more) (more ++ h.0) (IsPermutation-append_comm h.0 more) in
      (h.0, subst (λ l. IsSameBag (ys ++ more) l) (sym (append_assoc xs more h.0)) (IsPermutation-trans _ _ _ apart turned))

  pub IsSubBag-cons : (x : X) (xs ys : List X) → IsSubBag xs ys → IsSubBag (x ∷ xs) (x ∷ ys)
  IsSubBag-cons x xs ys h = (h.0, IsPermutation-cons x ys (xs ++ h.0) h.1)

  -- those that were picked
  pub IsSubBag-picked : (picks : List Bool) (xs : List X) → IsSubBag (items_where_true picks xs) xs
  IsSubBag-picked [] xs = (xs, IsPermutation-refl xs)
  IsSubBag-picked (b ∷ picks) [] = ([], IsPermutation-refl [])
  IsSubBag-picked (true ∷ picks) (x ∷ xs) = IsSubBag-cons x _ xs (IsSubBag-picked picks xs)
  IsSubBag-picked (false ∷ picks) (x ∷ xs) = IsSubBag-trans _ xs (x ∷ xs) (IsSubBag-picked picks xs) (IsSubBag-tail x xs)

-- ---- bounds

by_recursion : {X : Type 0} (P : X → Type 0) (xs : List X) → ((y : X) → Contains xs y → P y) → AllByRecursion P xs
by_recursion P [] h = tt
by_recursion P (x ∷ xs) h = (h x (Contains-first x xs), by_recursion P xs (λ y in'. h y (Contains-later x xs y in')))

-- `is_lt` is false of every outcome but `Less`
pub not_less : (r : Ordering) → r ≢ Less → is_lt r ≡ false
not_less Less h = absurd (h refl)
not_less Equal h = refl
not_less Greater h = refl

module _ {X : Type 0} {cmp : X → X → Ordering} (total : IsTotalOrder cmp) where
  bounds : (m : X) (xs : List X) → ((y : X) → Contains xs y → cmp y m ≢ Greater) → IsUpperBound cmp m xs
  bounds m xs h = by_recursion (λ y. is_lt (cmp m y) ≡ false) xs (λ y in'. not_less (cmp m y) (λ less. h y in' (total.antisymm y m ∙ ap ordering_reverse less)))

  -- a greatest item bounds all
  pub upper_bound : (items : List X) (m : X) → IsGreatest cmp items m → IsUpperBound cmp m items
  upper_bound items m h = bounds m items h.none_above

  -- and what a pop leaves
  pub upper_bound_left : (items rest : List X) (m : X) → IsGreatest cmp items m → IsSameBag items (m ∷ rest) → IsUpperBound cmp m rest
  upper_bound_left items rest m h bag = bounds m rest (λ y in'. h.none_above y (came_later m rest items y (IsPermutation-sym items (m ∷ rest) bag) in'))

  pub shown_bound : (items : List X) (r : Option (Bor X)) → IfSome r (λ item. IsGreatest cmp items item.now) → IfSome r (λ item. IsUpperBound cmp item.now items)
  shown_bound items None h = tt
  shown_bound items (Some m) h = upper_bound items m.now h

  pub popped_bound : (items rest : List X) (r : Option X) → IfSome r (IsGreatest cmp items) → IfSome r (λ item. IsSameBag items (item ∷ rest)) → IfSome r (λ item. IsUpperBound cmp item rest)
  popped_bound items rest None h bag = tt
  popped_bound items rest (Some m) h bag = upper_bound_left items rest m h bag
