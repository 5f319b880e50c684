-- Nodes get numbers: their places in the set.
use Rattle.dary_heap.proofs.Common.{◌≡◌, ◌≢◌, ℕ, zero, suc, ◌<◌, Bool, true, false, List, [], ◌∷◌, ◌++◌, length, get_or, refl, sym, ap, ◌∙◌, arith, inl, inr, if◌then◌else◌, Option, Some}
use Rattle.dary_heap.proofs.Common.{slice_get, slice_get_within, get_or_from_slice_get, cases_lt, true≢false, length-append}
use Rattle.dary_heap.proofs.Order.{slice_get-append, slice_get-push}
use Rattle.indexmap.specs.IndexSet.{insert_key}
use Rattle.std.proofs.Common.{◌||◌}
use Rattle.std.proofs.lemmas.Map.Keys.{apart_from_distinct}
use Rattle.std.specs.Cmp.{IsEquivalence}
use Rattle.std.specs.List.{IsDistinct, list_any}
use Rattle.graph_search.specs.Searching.{Numbers}

or_left : (a b : Bool) → a || b ≡ false → a ≡ false
or_left false b h = refl
or_left true b h = h

or_right : (a b : Bool) → a || b ≡ false → b ≡ false
or_right false b h = h
or_right true b h = absurd (true≢false h)

none_passes : {X : Type 0} (test : X → Bool) (xs : List X) (i : ℕ) (x : X) → list_any test xs ≡ false → slice_get xs i ≡ Some x → test x ≡ false
none_passes test [] i x h there = absurd (omega (arith, slice_get_within [] i x there))
none_passes test (y ∷ xs) zero x h there = let is : y ≡ x = cc in ap test (sym is) ∙ or_left (test y) (list_any test xs) h
none_passes test (y ∷ xs) (suc i) x h there = none_passes test xs i x (or_right (test y) (list_any test xs) h) there

-- what the set of nodes does when a node is inserted
pub numbered : {N : Type 0} {eq : N → N → Bool} (node : N) (number : ℕ) (names more : List N) → more ≡ insert_key eq names node → number < length more → (k : N) → slice_get more number ≡ Some k →
    eq node k ≡ true → Numbers eq node number names more
numbered {N} {eq} node number names more keys inside k there same = by (list_any (eq node) names) refl
  where
    by : (b : Bool) → list_any (eq node) names ≡ b → Numbers eq node number names more
    by true is = record {
      stored = k;
      there = there;
      same = same;
      either = inl (keys ∙ ap (λ (b : Bool). if b then names else names ++ node ∷ []) is);
    }
    by false is =
        let shape : more ≡ names ++ node ∷ [] = keys ∙ ap (λ (b : Bool). if b then names else names ++ node ∷ []) is in
        let here : slice_get (names ++ node ∷ []) number ≡ Some k = ap (λ (l : List N). slice_get l number) (sym shape) ∙ there in
        let long : length more ≡ length (names ++ node ∷ []) = ap (λ (l : List N). length l) shape in
        let last : number ≡ length names = elim (cases_lt number (length names)) [
          | inl low ↦ absurd (true≢false (sym same ∙ none_passes (eq node) names number k is (sym (slice_get-append names (node ∷ []) number low) ∙ here)))
          | inr past ↦ omega (arith, past, inside, long, length-append names (node ∷ []))
        ] in
        let at_last : slice_get (names ++ node ∷ []) number ≡ Some node = ap (slice_get (names ++ node ∷ [])) last ∙ slice_get-push names node in
        let is_node : k ≡ node = cc in
        record { stored = k; there = there; same = same; either = inr (shape, is_node, last) }

-- nodes with other numbers aren't equal
pub apart_at : {N : Type 0} {eq : N → N → Bool} → IsEquivalence eq → (names : List N) → IsDistinct eq names → (i j : ℕ) (a b : N) → i ≢ j → slice_get names i ≡ Some a → slice_get names j ≡ Some b →
    eq a b ≡ false
apart_at {N} {eq} laws names unique i j a b apart a_at b_at =
    let left = get_or_from_slice_get names i a a a_at in
    let right = get_or_from_slice_get names j b a b_at in
    elim (cases_lt i j) [
      | inl less ↦
          let both : eq (get_or names i a) (get_or names j a) ≡ eq a b = λ k. eq (left k) (right k) in
          sym both ∙ apart_from_distinct eq names i j a unique less (slice_get_within names j b b_at)
      | inr past ↦
          let both : eq (get_or names j a) (get_or names i a) ≡ eq b a = λ k. eq (right k) (left k) in
          laws.symm a b ∙ sym both ∙ apart_from_distinct eq names j i a unique (omega (arith, past, apart)) (slice_get_within names i a a_at)
    ]
