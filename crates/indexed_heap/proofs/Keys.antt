-- How much room the keys need.
use Rattle.dary_heap.proofs.Common.{◌≡◌, ℕ, ◌+◌, ◌<◌, ◌≤◌, List, [], ◌∷◌, ◌++◌, length, refl, ap, ◌∙◌, suc, zero, arith, Some, slice_get, slice_get_within, take}
use Rattle.dary_heap.proofs.Common.{sym, inl, inr, cases_eq, cases_lt, length-take, nat_cmp, nat_cmp_is, Less, Equal, Greater}
use Rattle.dary_heap.proofs.Order.{reads}
use Rattle.std.proofs.lemmas.List.{get_or-take}
use Rattle.std.proofs.lemmas.List.Recursion.{max_push}
use Rattle.std.specs.Ordering.{ord_max}
use Rattle.std.specs.Prelude.{max}
use Rattle.indexed_heap.specs.Keys.{key_bound}
use Rattle.indexed_heap.specs.Places.{AreRight}
use Rattle.indexed_heap.proofs.Placing.{has_place}

-- the greater of two numbers
pub max_is : (a b : ℕ) → ord_max nat_cmp a b ≡ max a b
max_is a b = elim (cases_lt b a) [
  | inl less ↦ rw (sym (nat_cmp_is b a Less less)) (omega arith)
  | inr past ↦ elim (cases_eq b a) [
    | inl same ↦ rw (sym (nat_cmp_is b a Equal same)) (omega arith)
    | inr apart ↦ rw (sym (nat_cmp_is b a Greater (omega arith))) (omega arith)
  ]
]

module _ {X : Type 0} where
  -- one more entry
  pub bound_more : (entries : List (ℕ × X)) (entry : ℕ × X) → key_bound (entries ++ entry ∷ []) ≡ max (key_bound entries) (entry.0 + 1)
  bound_more entries entry = max_push key_bound (λ (s : ℕ × X). s.0 + 1) refl (λ x xs. refl) entries entry

  -- each key is below
  pub below_bound : (entries : List (ℕ × X)) (i : ℕ) (entry : ℕ × X) → slice_get entries i ≡ Some entry → entry.0 < key_bound entries
  below_bound [] i entry there = let inside : i < 0 = slice_get_within [] i entry there in absurd (omega arith)
  below_bound (x ∷ xs) zero entry there = let is : x ≡ entry = (cc) in omega (arith, ap (λ (s : ℕ × X). s.0) is)
  below_bound (x ∷ xs) (suc i) entry there = omega (arith, below_bound xs i entry there)

  -- and no number is less that is above each key
  pub bound_least : (entries : List (ℕ × X)) (n : ℕ) → ((i : ℕ) (entry : ℕ × X) → slice_get entries i ≡ Some entry → entry.0 < n) → key_bound entries ≤ n
  bound_least [] n h = omega arith
  bound_least (x ∷ xs) n h = omega (arith, h 0 x refl, bound_least xs n (λ i entry there. h (suc i) entry there))

  module _ {entries : List (ℕ × X)} {places : List ℕ} (right : AreRight entries places) where
    -- the table has room for each key
    pub bound_within : key_bound entries ≤ length places
    bound_within = bound_least entries (length places) (has_place right)

    -- and shows the same if it is cut off above each key
    pub cut_right : (n : ℕ) → key_bound entries ≤ n → AreRight entries (take n places)
    cut_right n above = record {
      right = λ i entry there.
          let low : entry.0 < key_bound entries = below_bound entries i entry there in
          let inside : entry.0 < length places = has_place right i entry there in
          reads places (take n places) entry.0 entry.0 (omega (arith, length-take n places)) inside (λ d. get_or-take n places entry.0 d (omega arith)) ∙ right.right i entry there;
    }
