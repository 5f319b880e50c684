-- Where items stand after one of them went along a path.
use Rattle.dary_heap.proofs.Common.{◌≡◌, ◌≢◌, ◌⊎◌, ℕ, zero, suc, ◌<◌, ◌≤◌, inl, inr, List, length, refl, sym, ap, subst, ◌∙◌, arith, swap, slice_get, cases_eq, parent, arity, div-le_self}
use Rattle.dary_heap.proofs.Depth.{parent-below}
use Rattle.dary_heap.proofs.Order.{exchanges}
use Rattle.std.proofs.lemmas.List.{same_lists}
use Rattle.std.proofs.lemmas.Option.{unwrap_or-slice_get}
use Rattle.std.specs.Option.{unwrap_or}
use Rattle.dary_heap.proofs.Common.{IsPermutation, IsPermutation-refl, IsPermutation-sym, IsPermutation-trans}
use Rattle.std.proofs.lemmas.List.Sorted.{IsPermutation-swap}
use Rattle.dary_heap.specs.Path.{above, GoesTo, GoesUp, GoesUpBy, IsAbove, IsOnPath}

-- an exchange and then the same one again
pub swap_back : {X : Type 0} (xs : List X) (a b : ℕ) → a < length xs → b < length xs → swap (swap xs a b) b a ≡ xs
swap_back xs a b p q =
    let ys = swap xs a b in
    let zs = swap ys b a in
    let there = exchanges xs ys a b p q refl in
    let back = exchanges ys zs b a (omega (arith, q, there.len)) (omega (arith, p, there.len)) refl in
    let at : (k : ℕ) → slice_get zs k ≡ slice_get xs k = λ k. elim (cases_eq k a) [
      | inl here ↦ ap (slice_get zs) here ∙ back.second ∙ there.second ∙ ap (slice_get xs) (sym here)
      | inr u ↦ elim (cases_eq k b) [
        | inl here ↦ ap (slice_get zs) here ∙ back.first ∙ there.first ∙ ap (slice_get xs) (sym here)
        | inr v ↦ back.others k v u ∙ there.others k u v
      ]
    ] in
    same_lists zs xs (back.len ∙ there.len) (λ k d within. sym (unwrap_or-slice_get zs k d) ∙ ap (λ read. unwrap_or read d) (at k) ∙ unwrap_or-slice_get xs k d)

module _ {X : Type 0} (D : ℕ) where
  -- one more level up
  pub GoesUpBy-more : (n from to : ℕ) (old new : List X) → GoesUpBy D n from to old new → 0 < to → GoesUpBy D (suc n) from (parent D to) old (swap new to (parent D to))
  GoesUpBy-more zero from to old new way up = (subst (λ m. 0 < m) (sym way.0) up, (ap (parent D) way.0, ap (λ m. swap new m (parent D m)) (sym way.0) ∙ ap (λ l. swap l from (parent D from)) way.1))
  GoesUpBy-more (suc n) from to old new way up = (way.0, GoesUpBy-more n (parent D from) to (swap old from (parent D from)) new way.1 up)

  -- the same item goes up to the first place, by way of another
  pub rejoins : (n k from to top : ℕ) (old mid new : List X) → top ≡ 0 → GoesUpBy D n from top mid old → GoesUpBy D k from to mid new → GoesUp D to top new old
  rejoins n zero from to top old mid new first all part = record { levels = n; way = subst (λ l. GoesUpBy D n to top l old) (sym part.1) (subst (λ m. GoesUpBy D n m top mid old) part.0 all) }
  rejoins zero (suc k) from to top old mid new first all part = absurd (omega (arith, part.0, all.0, first))
  rejoins (suc n) (suc k) from to top old mid new first all part = rejoins n k (parent D from) to top old (swap mid from (parent D from)) new first all.1 part.1

  -- it comes to a place above
  pub GoesUpBy-above : (n from to : ℕ) (old new : List X) → GoesUpBy D n from to old new → IsAbove D to from
  GoesUpBy-above zero from to old new way = record { levels = 0; there = way.0 }
  GoesUpBy-above (suc n) from to old new way = let rest = GoesUpBy-above n (parent D from) to (swap old from (parent D from)) new way.1 in record { levels = suc rest.levels; there = rest.there }

-- a place above another isn't after it
pub above-le : (D n low : ℕ) → above D n low ≤ low
above-le D zero low = omega arith
above-le D (suc n) zero = omega (arith, above-le D n (parent D 0), div-le_self 0 (arity D))
above-le D (suc n) (suc k) = omega (arith, above-le D n (parent D (suc k)), parent-below D (suc k) (omega arith))

pub GoesUp-le : {X : Type 0} (D from to : ℕ) {old new : List X} → GoesUp D from to old new → to ≤ from
GoesUp-le D from to {old = old} {new = new} goes = let up = GoesUpBy-above D goes.levels from to old new goes.way in omega (arith, above-le D up.levels from, up.there)

-- the item comes to the place where it stops, and none is lost
carried : {X : Type 0} (D n from to : ℕ) (old new : List X) → from < length old → GoesUpBy D n from to old new → (slice_get new to ≡ slice_get old from) × IsPermutation old new
carried D zero from to old new inside way = (ap (λ l. slice_get l to) way.1 ∙ ap (slice_get old) (sym way.0), subst (IsPermutation old) (sym way.1) (IsPermutation-refl old))
carried D (suc n) from to old new inside way =
    let p = parent D from in
    let below : p < from = parent-below D from way.0 in
    let mid = swap old from p in
    let e = exchanges old mid from p inside (omega (arith, inside)) refl in
    let rest = carried D n p to mid new (omega (arith, inside, e.len)) way.1 in
    (rest.0 ∙ e.second, IsPermutation-trans old mid new (IsPermutation-swap old mid from p inside (omega (arith, inside)) refl) rest.1)

pub GoesUp-permutation : {X : Type 0} (D from to : ℕ) (old new : List X) → from < length old → GoesUp D from to old new → IsPermutation old new
GoesUp-permutation D from to old new inside goes = (carried D goes.levels from to old new inside goes.way).1

module _ {X : Type 0} (D from to : ℕ) (old new : List X) (inside : from < length old) (stops : to < length new) (goes : GoesTo D from to old new) where
  pub GoesTo-carries : slice_get new to ≡ slice_get old from
  GoesTo-carries = elim goes [
    | inl up ↦ (carried D up.levels from to old new inside up.way).0
    | inr down ↦ sym (carried D down.levels to from new old stops down.way).0
  ]

  pub GoesTo-permutation : IsPermutation old new
  GoesTo-permutation = elim goes [
    | inl up ↦ GoesUp-permutation D from to old new inside up
    | inr down ↦ IsPermutation-sym new old (GoesUp-permutation D to from new old stops down)
  ]

-- what isn't on the path stays where it is
stands : {X : Type 0} (D n from to : ℕ) (old new : List X) → from < length old → GoesUpBy D n from to old new → (i : ℕ) → IsOnPath D from to i ⊎ (slice_get new i ≡ slice_get old i)
stands D zero from to old new inside way i = inr (ap (λ l. slice_get l i) way.1)
stands D (suc n) from to old new inside way i =
    let p = parent D from in
    let below : p < from = parent-below D from way.0 in
    let mid = swap old from p in
    let e = exchanges old mid from p inside (omega (arith, inside)) refl in
    let top = GoesUpBy-above D n p to mid new way.1 in
    elim (stands D n p to mid new (omega (arith, inside, e.len)) way.1 i) [
      | inl on ↦ inl (record { above_low = record { levels = suc on.above_low.levels; there = on.above_low.there }; below_high = on.below_high })
      | inr still ↦ elim (cases_eq i from) [
        | inl here ↦ inl (record { above_low = record { levels = 0; there = sym here }; below_high = subst (IsAbove D to) (sym here) (record { levels = suc top.levels; there = top.there }) })
        | inr u ↦ elim (cases_eq i p) [
          | inl here ↦ inl (record { above_low = record { levels = 1; there = sym here }; below_high = subst (IsAbove D to) (sym here) top })
          | inr v ↦ inr (still ∙ e.others i u v)
        ]
      ]
    ]

pub on_path_or_still : {X : Type 0} (D from to : ℕ) (old new : List X) → from < length old → GoesUp D from to old new → (i : ℕ) → IsOnPath D from to i ⊎ (slice_get new i ≡ slice_get old i)
on_path_or_still D from to old new inside goes i = stands D goes.levels from to old new inside goes.way i

-- the next place of a path
pub next_above : (D high at : ℕ) → high < at → IsAbove D high at → IsAbove D high (parent D at)
next_above D high at later up = go up.levels up.there where
  go : (n : ℕ) → above D n at ≡ high → IsAbove D high (parent D at)
  go zero there = absurd (omega (arith, there, later))
  go (suc n) there = record { levels = n; there = there }

pub next_on_path : (D at high i : ℕ) → i ≢ at → IsOnPath D at high i → IsOnPath D (parent D at) high i
next_on_path D at high i apart on = record { above_low = go on.above_low.levels on.above_low.there; below_high = on.below_high } where
  go : (n : ℕ) → above D n at ≡ i → IsAbove D i (parent D at)
  go zero there = absurd (apart (sym there))
  go (suc n) there = record { levels = n; there = there }

-- a path that ends where it begins
pub lone_on_path : (D at high i : ℕ) → at ≤ high → IsOnPath D at high i → i ≡ at
lone_on_path D at high i ends on = omega (arith, ends, above-le D on.above_low.levels at, on.above_low.there, above-le D on.below_high.levels i, on.below_high.there)
