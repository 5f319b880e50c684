-- The trees below places: what is in them, and that those below a heap's first place have all its items.
use Rattle.dary_heap.proofs.{◌≡◌, ◌≢◌, ℕ, zero, suc, ◌+◌, ◌-◌, ◌*◌, ◌<◌, ◌≤◌, List, [], ◌∷◌, ◌++◌, All, Some, length, get_or, take, drop, slice_get, inl, inr, refl, sym, ap, ◌∙◌, subst, arith}
use Rattle.dary_heap.proofs.{IsPermutation, IsPermutation-refl, IsPermutation-trans, IsPermutation-cons, append-nil}
use Rattle.dary_heap.proofs.{Ordering, Greater, IsTotalOrder, IsHeapOrdered, arity, parent, child-is, not_greater-self, not_greater-trans, slice_get_cases, slice_get_past}
use Rattle.dary_heap.proofs.{length-append, cases_lt, min, mul-le-mul_left, take-append-drop}
use Rattle.std.proofs.lemmas.Grind.{flat_map-append}
use Rattle.std.proofs.lemmas.List.{drop_all, drop-drop, drop_more}
use Rattle.std.proofs.lemmas.List.Elements.{All-append, All-cons, All-head, All-nil, All-tail, All-weaker}
use Rattle.std.proofs.lemmas.List.Sorted.{IsPermutation-append_right}
use Rattle.std.specs.List.{flat_map, range_with_len}
use Rattle.dary_heap.proofs.Cancelling.{swap_fronts}
use Rattle.dary_heap.specs.iter.Candidates.{tree_within, trees, under}

-- two rows of numbers, one behind the other
pub range-append : (first m n : ℕ) → range_with_len first (m + n) ≡ range_with_len first m ++ range_with_len (first + m) n
range-append first zero n = let e : zero + n ≡ n = omega arith in let f : first + zero ≡ first = omega arith in rw e (rw f refl)
range-append first (suc m) n =
    let e : suc m + n ≡ suc (m + n) = omega arith in
    let f : first + suc m ≡ first + 1 + m = omega arith in
    rw e (rw f (ap (λ l. first ∷ l) (range-append (first + 1) m n)))

-- how many children the places from a up to its first child have
width_of : (k a m d : ℕ) → k + a ≡ m + 1 → a * d ≡ m → k * d ≡ (m + 1) * d + 1 - (m + 1)
width_of k a m d e f = omega (arith, ap (λ n. n * d) e, f)

module _ {T : Type 0} where
  same_row : (f g : ℕ → List T) (first n : ℕ) → ((i : ℕ) → first ≤ i → f i ≡ g i) → flat_map f (range_with_len first n) ≡ flat_map g (range_with_len first n)
  same_row f g first zero h = refl
  same_row f g first (suc n) h =
      ap (λ l. l ++ flat_map f (range_with_len (first + 1) n)) (h first (omega arith))
      ∙ ap (λ l. g first ++ l) (same_row f g (first + 1) n (λ i later. h i (omega arith)))

  empty_row : (f : ℕ → List T) (first n : ℕ) → ((i : ℕ) → first ≤ i → f i ≡ []) → flat_map f (range_with_len first n) ≡ []
  empty_row f first zero h = refl
  empty_row f first (suc n) h = ap (λ l. l ++ flat_map f (range_with_len (first + 1) n)) (h first (omega arith)) ∙ empty_row f (first + 1) n (λ i later. h i (omega arith))

  row_all : (P : T → Type 0) (f : ℕ → List T) (first n : ℕ) → ((i : ℕ) → first ≤ i → i < first + n → All P (f i)) → All P (flat_map f (range_with_len first n))
  row_all P f first zero h = All-nil P
  row_all P f first (suc n) h =
      All-append P (f first) (flat_map f (range_with_len (first + 1) n)) (h first (omega arith) (omega arith))
      (row_all P f (first + 1) n (λ i from to. h i (omega arith) (omega arith)))

module _ {T : Type 0} (D : ℕ) (items : List T) where
  -- past the items nothing is below a place
  past : (fuel place : ℕ) → length items ≤ place → tree_within D items fuel place ≡ []
  unfolding tree_within
  past zero place h = refl
  past (suc fuel) place h = ap (λ o. under o (flat_map (tree_within D items fuel) (range_with_len (place * arity D + 1) (arity D)))) (slice_get_past items place h)

  pub trees_past : (first n : ℕ) → length items ≤ first → trees D items (range_with_len first n) ≡ []
  trees_past first n h = empty_row _ first n (λ i later. past (length items) i (omega arith))

  -- a child comes after its parent
  child_later : (place i : ℕ) → place * arity D + 1 ≤ i → place < i
  child_later place i h = let some : 1 ≤ arity D = omega arith in omega (arith, mul-le-mul_left place some)

  -- more depths than there may be change nothing
  enough : (f g place : ℕ) → length items ≤ f + place → length items ≤ g + place → tree_within D items f place ≡ tree_within D items g place
  unfolding tree_within
  enough zero g place p q = sym (past g place (omega arith))
  enough (suc f) zero place p q = past (suc f) place (omega arith)
  enough (suc f) (suc g) place p q = ap (under (slice_get items place)) (same_row _ _ (place * arity D + 1) (arity D)
      (λ i from. let later : place < i = child_later place i from in enough f g i (omega arith) (omega arith)))

  -- the tree of a place is the item there and the trees of its children
  pub tree_at : (place : ℕ) (x : T) → slice_get items place ≡ Some x → tree_within D items (length items) place ≡ x ∷ trees D items (range_with_len (place * arity D + 1) (arity D))
  unfolding tree_within
  tree_at place x there = enough (length items) (suc (length items)) place (omega arith) (omega arith)
      ∙ ap (λ o. under o (trees D items (range_with_len (place * arity D + 1) (arity D)))) there

  -- those of a row of which a part is past the items
  pub clipped : (from count first end : ℕ) → first ≡ min (length items) from → end ≡ min (length items) (from + count)
      → trees D items (range_with_len first (end - first)) ≡ trees D items (range_with_len from count)
  clipped from count first end at to = elim (cases_lt from (length items)) [
    | inl inside ↦
        let k = end - first in
        let here : first ≡ from = omega (arith, at, inside) in
        let whole : count ≡ k + (count - k) = omega (arith, at, to, inside) in
        let none : trees D items (range_with_len (from + k) (count - k)) ≡ [] = elim (cases_lt (from + k) (length items)) [
          | inl before ↦ let zero_left : count - k ≡ 0 = omega (arith, at, to, inside, before) in ap (λ n. trees D items (range_with_len (from + k) n)) zero_left
          | inr out ↦ trees_past (from + k) (count - k) out
        ] in
        ap (λ n. trees D items (range_with_len n k)) here
        ∙ sym (ap (λ n. trees D items (range_with_len from n)) whole ∙ ap (trees D items) (range-append from k (count - k))
        ∙ flat_map-append _ (range_with_len from k) (range_with_len (from + k) (count - k)) ∙ ap (λ l. trees D items (range_with_len from k) ++ l) none ∙ append-nil _)
    | inr out ↦ trees_past first (end - first) (omega (arith, at, out)) ∙ sym (trees_past from count out)
  ]

  -- each place inside has a tree with an item
  pub count_trees : (places : List ℕ) → All (λ place. place < length items) places → length places ≤ length (trees D items places)
  count_trees [] inside = omega arith
  count_trees (place ∷ places) inside =
      let here : place < length items = All-head (λ place. place < length items) place places inside in
      let later = count_trees places (All-tail (λ place. place < length items) place places inside) in
      elim (slice_get_cases items place).1 [
        | inl at ↦
            let own : length (tree_within D items (length items) place) ≡ suc (length (trees D items (range_with_len (place * arity D + 1) (arity D)))) = ap length (tree_at place at.0 at.2) in
            omega (arith, length-append (tree_within D items (length items) place) (trees D items places), own, later)
        | inr out ↦ absurd (omega (arith, here, out.0))
      ]

  -- the places from a on, and then their children
  level_from : (k a : ℕ) (x : T) → slice_get items a ≡ Some x → get_or items a x ≡ x → a < length items
      → IsPermutation (trees D items (range_with_len (a + 1) k)) (take k (drop (a + 1) items) ++ trees D items (range_with_len ((a + 1) * arity D + 1) (k * arity D)))
      → IsPermutation (trees D items (range_with_len a (suc k))) (take (suc k) (drop a items) ++ trees D items (range_with_len (a * arity D + 1) (suc k * arity D)))
  level_from k a x there held inside later =
      let own = trees D items (range_with_len (a * arity D + 1) (arity D)) in
      let after = trees D items (range_with_len ((a + 1) * arity D + 1) (k * arity D)) in
      let here = take k (drop (a + 1) items) in
      let others = trees D items (range_with_len (a + 1) k) in
      let first : drop a items ≡ x ∷ drop (a + 1) items = drop_more items a x inside ∙ ap (λ y. y ∷ drop (a + 1) items) held in
      let count : suc k * arity D ≡ arity D + k * arity D = omega arith in
      let next : a * arity D + 1 + arity D ≡ (a + 1) * arity D + 1 = omega arith in
      let rows : trees D items (range_with_len (a * arity D + 1) (suc k * arity D)) ≡ own ++ after =
      ap (λ n. trees D items (range_with_len (a * arity D + 1) n)) count ∙ ap (trees D items) (range-append (a * arity D + 1) (arity D) (k * arity D))
      ∙ flat_map-append _ (range_with_len (a * arity D + 1) (arity D)) (range_with_len (a * arity D + 1 + arity D) (k * arity D))
      ∙ ap (λ m. own ++ trees D items (range_with_len m (k * arity D))) next in
      let moved : IsPermutation (own ++ others) (here ++ (own ++ after)) =
      IsPermutation-trans (own ++ others) (own ++ (here ++ after)) (here ++ (own ++ after)) (IsPermutation-append_right own others (here ++ after) later) (swap_fronts own here after) in
      subst (λ l. IsPermutation (l ++ others) (take (suc k) (drop a items) ++ trees D items (range_with_len (a * arity D + 1) (suc k * arity D)))) (sym (tree_at a x there))
      (subst (λ l. IsPermutation (x ∷ (own ++ others)) (take (suc k) l ++ trees D items (range_with_len (a * arity D + 1) (suc k * arity D)))) (sym first)
      (subst (λ l. IsPermutation (x ∷ (own ++ others)) (x ∷ here ++ l)) (sym rows) (IsPermutation-cons x (own ++ others) (here ++ (own ++ after)) moved)))

  level : (k a : ℕ) → IsPermutation (trees D items (range_with_len a k)) (take k (drop a items) ++ trees D items (range_with_len (a * arity D + 1) (k * arity D)))
  level zero a = let none : zero * arity D ≡ 0 = omega arith in subst (λ n. IsPermutation [] (trees D items (range_with_len (a * arity D + 1) n))) (sym none) (IsPermutation-refl [])
  level (suc k) a = elim (slice_get_cases items a).1 [
    | inl at ↦ level_from k a at.0 at.2 at.3 at.1 (level k (a + 1))
    | inr out ↦
        let children : length items ≤ a * arity D + 1 = omega (arith, out.0, child_later a (a * arity D + 1) (omega arith)) in
        let here : trees D items (range_with_len a (suc k)) ≡ [] = trees_past a (suc k) out.0 in
        let there : trees D items (range_with_len (a * arity D + 1) (suc k * arity D)) ≡ [] = trees_past (a * arity D + 1) (suc k * arity D) children in
        let none : drop a items ≡ [] = drop_all a items out.0 in
        rw here (rw there (rw none (IsPermutation-refl [])))
  ]

  -- a place, the next ones up to its first child, and all below them: the places from the first of these on
  all_from : (fuel a : ℕ) → length items ≤ fuel + a → IsPermutation (trees D items (range_with_len a (a * arity D + 1 - a))) (drop a items)
  all_from zero a h =
      let here : trees D items (range_with_len a (a * arity D + 1 - a)) ≡ [] = trees_past a (a * arity D + 1 - a) (omega arith) in
      let none : drop a items ≡ [] = drop_all a items (omega arith) in
      rw here (rw none (IsPermutation-refl []))
  all_from (suc fuel) a h =
      let k = a * arity D + 1 - a in
      let b = a * arity D + 1 in
      let below = trees D items (range_with_len b (k * arity D)) in
      let later : a < b = child_later a b (omega arith) in
      let width : k * arity D ≡ b * arity D + 1 - b = width_of k a (a * arity D) (arity D) (omega (arith, later)) refl in
      let rest : IsPermutation below (drop b items) = subst (λ n. IsPermutation (trees D items (range_with_len b n)) (drop b items)) (sym width) (all_from fuel b (omega arith)) in
      let end : drop k (drop a items) ≡ drop b items = drop-drop k a items ∙ ap (λ n. drop n items) (omega (arith, later)) in
      let joined : take k (drop a items) ++ drop b items ≡ drop a items = ap (λ l. take k (drop a items) ++ l) (sym end) ∙ take-append-drop k (drop a items) in
      subst (IsPermutation (trees D items (range_with_len a k))) joined
      (IsPermutation-trans _ _ _ (level k a) (IsPermutation-append_right (take k (drop a items)) below (drop b items) rest))

  -- the tree of the first place has all items
  pub all_items : IsPermutation (trees D items (0 ∷ [])) items
  all_items =
      let one : 0 * arity D + 1 - 0 ≡ 1 = omega arith in
      subst (λ n. IsPermutation (trees D items (range_with_len 0 n)) items) one (all_from (length items) 0 (omega arith))

  module _ {cmp : T → T → Ordering} (total : IsTotalOrder cmp) (ordered : IsHeapOrdered cmp D items) where
    -- none below a place exceeds the item there
    below_root : (fuel place : ℕ) (x : T) → slice_get items place ≡ Some x → All (λ y. cmp y x ≢ Greater) (tree_within D items fuel place)
    unfolding tree_within
    below_root zero place x there = All-nil _
    below_root (suc fuel) place x there =
        let first = place * arity D + 1 in
        let row = flat_map (tree_within D items fuel) (range_with_len first (arity D)) in
        let child : (i : ℕ) → first ≤ i → i < first + arity D → All (λ y. cmp y x ≢ Greater) (tree_within D items fuel i) = λ i from to. elim (slice_get_cases items i).1 [
          | inl at ↦
              let parent_is : parent D i ≡ place = child-is D place i from (omega arith) in
              let under_parent : cmp at.0 x ≢ Greater = (ordered.below_parent i (omega arith)).not_greater at.0 x at.2 (ap (slice_get items) parent_is ∙ there) in
              All-weaker (λ y. cmp y at.0 ≢ Greater) (λ y. cmp y x ≢ Greater) (λ y less. not_greater-trans total y at.0 x less under_parent) (tree_within D items fuel i) (below_root fuel i at.0 at.2)
          | inr out ↦ subst (All (λ y. cmp y x ≢ Greater)) (sym (past fuel i out.0)) (All-nil _)
        ] in
        subst (λ o. All (λ y. cmp y x ≢ Greater) (under o row)) (sym there)
        (All-cons (λ y. cmp y x ≢ Greater) x row (not_greater-self total x) (row_all (λ y. cmp y x ≢ Greater) (tree_within D items fuel) first (arity D) child))

    pub tree_below : (place : ℕ) (x : T) → slice_get items place ≡ Some x → All (λ y. cmp y x ≢ Greater) (tree_within D items (length items) place)
    tree_below place x there = below_root (length items) place x there
