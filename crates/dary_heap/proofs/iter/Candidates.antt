-- What becomes of the candidates of an `IterSorted` when one is given and its children come.
use Rattle.dary_heap.proofs.{◌≡◌, ◌≢◌, ℕ, zero, suc, ◌+◌, ◌-◌, ◌*◌, ◌<◌, ◌≤◌, List, [], ◌∷◌, ◌++◌, All, Some, length, slice_get, get_or, inl, inr}
use Rattle.dary_heap.proofs.{cases_eq, cases_lt, if◌then◌else◌, refl, sym, ap, ◌∙◌, subst, arith, Bor}
use Rattle.dary_heap.proofs.{IsPermutation, IsPermutation-refl, IsPermutation-sym, IsPermutation-trans, IsPermutation-cons, IsPermutation-middle, append_assoc, slice_get_read}
use Rattle.dary_heap.proofs.{Contains, Contains-permutation, Contains-first, Ordering, Greater, IsGreatest, IsTotalOrder, IsHeapOrdered, arity, min}
use Rattle.dary_heap.proofs.{not_greater-trans, slice_get_within, length-append, length-map, All-contains, All-weaker, All-contains_itself}
use Rattle.dary_heap.proofs.{RisesWithin, depth-later, times_depth-later, length_permutation, mul-le-mul, mul-le-mul_left, pop_bound, push_bound}
use Rattle.dary_heap.specs.Bounds.{candidates_bound, next_bound}
use Rattle.std.proofs.lemmas.List.Elements.{All-append, All-cons, All-head, All-map, All-nil, All-tail}
use Rattle.std.proofs.lemmas.List.FromFn.{length-range_with_len}
use Rattle.std.proofs.lemmas.Grind.{flat_map-append}
use Rattle.std.proofs.lemmas.List.Sorted.{All-permutation, IsPermutation-map}
use Rattle.std.specs.List.{range_with_len}
use Rattle.std.specs.Prelude.{◌==◌}
use Rattle.dary_heap.specs.iter.Candidates.{AreCandidates, StandAtPlaces, StandsAtPlace, by_shown, not_given, places_of, rest_of, tree_within, trees}
use Rattle.dary_heap.proofs.Cancelling.{IsPermutation-flat_map}
use Rattle.dary_heap.proofs.iter.Trees.{all_items, clipped, count_trees, range-append, tree_at, tree_below}

-- one place more came to those of a row
pub row_more : (first place : ℕ) (old mid new : List ℕ) → first ≤ place → IsPermutation (range_with_len first (place - first) ++ old) mid → IsPermutation (place ∷ mid) new
    → IsPermutation (range_with_len first (place + 1 - first) ++ old) new
row_more first place old mid new after before came =
    let row = range_with_len first (place - first) in
    let count : place + 1 - first ≡ place - first + 1 = omega arith in
    let last : first + (place - first) ≡ place = omega arith in
    let longer : range_with_len first (place + 1 - first) ≡ row ++ place ∷ [] = ap (range_with_len first) count ∙ range-append first (place - first) 1 ∙ ap (λ n. row ++ n ∷ []) last in
    let whole : range_with_len first (place + 1 - first) ++ old ≡ row ++ place ∷ old = ap (λ l. l ++ old) longer ∙ append_assoc row (place ∷ []) old in
    subst (λ l. IsPermutation l new) (sym whole)
    (IsPermutation-trans (row ++ place ∷ old) (place ∷ (row ++ old)) new (IsPermutation-middle row place old)
    (IsPermutation-trans (place ∷ (row ++ old)) (place ∷ mid) new (IsPermutation-cons place (row ++ old) mid before) came))

-- one push more onto fewer than so many
pub pushed_more : (first place n most start old new : ℕ) → first ≤ place → n ≤ most → RisesWithin start old ((place - first) * push_bound 4 most) → RisesWithin old new (push_bound 4 n)
    → RisesWithin start new ((place + 1 - first) * push_bound 4 most)
pushed_more first place n most start old new after few before one =
    let count : place + 1 - first ≡ place - first + 1 = omega arith in
    let spent : (place + 1 - first) * push_bound 4 most ≡ (place - first) * push_bound 4 most + push_bound 4 most = omega (arith, ap (λ k. k * push_bound 4 most) count) in
    record {
      rises = omega (arith, before.rises, one.rises);
      within = omega (arith, before.within, one.within, spent, depth-later 4 n most few);
    }

module _ {T : Type 0} (items : List T) where
  -- a candidate that is the item at its place came to others that are
  pub stand_more : (came : Bor T × ℕ) (old new : List (Bor T × ℕ)) → IsPermutation (came ∷ old) new → came.1 < length items → came.0.now ≡ get_or items came.1 came.0.now
      → StandAtPlaces items old → StandAtPlaces items new
  stand_more came old new bag inside is stand =
      All-permutation (StandsAtPlace items) (came ∷ old) new bag
      (All-cons (StandsAtPlace items) came old (slice_get_read items (length items) came.1 came.0.now refl inside is) stand)

module _ {T : Type 0} (D : ℕ) (items : List T) where
  -- the candidate that is given, its children, and the others
  pub rest_opened : (c : Bor T × ℕ) (old mid : List (Bor T × ℕ)) (first end : ℕ) → slice_get items c.1 ≡ Some c.0.now
      → first ≡ min (length items) (c.1 * arity D + 1) → end ≡ min (length items) (c.1 * arity D + 1 + arity D) → IsPermutation old (c ∷ mid)
      → IsPermutation (not_given D items old) (c.0.now ∷ trees D items (range_with_len first (end - first) ++ places_of mid))
  rest_opened c old mid first end there at to bag =
      let tree = tree_within D items (length items) in
      let row = range_with_len first (end - first) in
      let out : IsPermutation (not_given D items old) (tree c.1 ++ not_given D items mid) = IsPermutation-flat_map tree _ _ (IsPermutation-map (λ (c : Bor T × ℕ). c.1) old (c ∷ mid) bag) in
      let opened : tree c.1 ++ not_given D items mid ≡ c.0.now ∷ trees D items (row ++ places_of mid) =
      ap (λ l. l ++ not_given D items mid) (tree_at D items c.1 c.0.now there)
      ∙ ap (λ l. c.0.now ∷ (l ++ not_given D items mid)) (sym (clipped D items (c.1 * arity D + 1) (arity D) first end at to))
      ∙ ap (λ l. c.0.now ∷ l) (sym (flat_map-append tree row (places_of mid))) in
      subst (IsPermutation (not_given D items old)) opened out

  -- what is not given once it was
  pub rest_step : (item : T) (old mid new : List (Bor T × ℕ)) (row : List ℕ) → IsPermutation (not_given D items old) (item ∷ trees D items (row ++ places_of mid))
      → IsPermutation (row ++ places_of mid) (places_of new) → IsPermutation (not_given D items old) (item ∷ not_given D items new)
  rest_step item old mid new row opened came =
      IsPermutation-trans _ _ _ opened (IsPermutation-cons item _ _ (IsPermutation-flat_map (tree_within D items (length items)) (row ++ places_of mid) (places_of new) came))

  module _ {cmp : T → T → Ordering} (total : IsTotalOrder cmp) (ordered : IsHeapOrdered cmp D items) where
    -- what exceeds no candidate is exceeded by none that is not given
    bounded : (x : T) (cs : List (Bor T × ℕ)) → StandAtPlaces items cs → All (λ (c : Bor T × ℕ). cmp c.0.now x ≢ Greater) cs → All (λ y. cmp y x ≢ Greater) (not_given D items cs)
    bounded x [] stand below = All-nil (λ y. cmp y x ≢ Greater)
    bounded x (c ∷ cs) stand below =
        let tree = tree_within D items (length items) c.1 in
        let there = All-head (StandsAtPlace items) c cs stand in
        let under = All-head (λ (c : Bor T × ℕ). cmp c.0.now x ≢ Greater) c cs below in
        All-append (λ y. cmp y x ≢ Greater) tree (not_given D items cs)
        (All-weaker (λ y. cmp y c.0.now ≢ Greater) (λ y. cmp y x ≢ Greater) (λ y less. not_greater-trans total y c.0.now x less under) tree (tree_below D items total ordered c.1 c.0.now there))
        (bounded x cs (All-tail (StandsAtPlace items) c cs stand) (All-tail (λ (c : Bor T × ℕ). cmp c.0.now x ≢ Greater) c cs below))

    pub rest_greatest : (c : Bor T × ℕ) (cs : List (Bor T × ℕ)) (rest : List T) → StandAtPlaces items cs → IsGreatest (by_shown cmp) cs c
        → IsPermutation (not_given D items cs) (c.0.now ∷ rest) → IsGreatest cmp (not_given D items cs) c.0.now
    rest_greatest c cs rest stand greatest bag = record {
      occurs = Contains-permutation (c.0.now ∷ rest) (not_given D items cs) c.0.now (IsPermutation-sym _ _ bag) (Contains-first c.0.now rest);
      none_above = λ y in'. All-contains (λ y. cmp y c.0.now ≢ Greater) (not_given D items cs) y
          (bounded c.0.now cs stand (All-weaker (Contains cs) (λ (b : Bor T × ℕ). cmp b.0.now c.0.now ≢ Greater) greatest.none_above cs (All-contains_itself cs))) in';
    }

  stand_within : (cs : List (Bor T × ℕ)) → StandAtPlaces items cs → All (λ place. place < length items) (places_of cs)
  stand_within cs stand = All-map (λ place. place < length items) (λ (c : Bor T × ℕ). c.1) cs
      (All-weaker (StandsAtPlace items) (λ (c : Bor T × ℕ). c.1 < length items) (λ c there. slice_get_within items c.1 c.0.now there) cs stand)

  row_within : (first n : ℕ) → first + n ≤ length items → All (λ place. place < length items) (range_with_len first n)
  row_within first zero h = All-nil (λ place. place < length items)
  row_within first (suc n) h = All-cons (λ place. place < length items) first (range_with_len (first + 1) n) (omega (arith, h)) (row_within (first + 1) n (omega (arith, h)))

  -- a candidate for each place, so not more than items that are not given
  pub few_candidates : (first n : ℕ) (cs : List (Bor T × ℕ)) → first + n ≤ length items → StandAtPlaces items cs → n + length cs ≤ length (trees D items (range_with_len first n ++ places_of cs))
  few_candidates first n cs inside stand =
      let row = range_with_len first n in
      let all = count_trees D items (row ++ places_of cs) (All-append (λ place. place < length items) row (places_of cs) (row_within first n inside) (stand_within cs stand)) in
      omega (arith, all, length-append row (places_of cs), length-range_with_len first n, length-map cs (λ (c : Bor T × ℕ). c.1))

-- the candidates of an iterator, of which one is given, and then those that are left with its children
module _ {T : Type 0} (cmp : T → T → Ordering) (D : ℕ) (items : List T) (old : List (Bor T × ℕ)) (left room : ℕ) (was : AreCandidates cmp D items old left room) (some : 0 < left)
    (c : Bor T × ℕ) (mid : List (Bor T × ℕ)) (taken : IsPermutation old (c ∷ mid)) where
  pub given_stands : slice_get items c.1 ≡ Some c.0.now
  given_stands = All-head (StandsAtPlace items) c mid (All-permutation (StandsAtPlace items) old (c ∷ mid) taken was.stand)

  pub others_stand : StandAtPlaces items mid
  others_stand = All-tail (StandsAtPlace items) c mid (All-permutation (StandsAtPlace items) old (c ∷ mid) taken was.stand)

  module _ (first end : ℕ) (at : first ≡ min (length items) (c.1 * arity D + 1)) (to : end ≡ min (length items) (c.1 * arity D + 1 + arity D)) where
    -- there is room for its children
    pub has_room : length mid + (end - first) ≤ room
    has_room =
        let one = length_permutation old (c ∷ mid) taken in
        let opened = length_permutation _ _ (rest_opened D items c old mid first end given_stands at to taken) in
        elim was.fits [
          | inl all ↦ omega (arith, all, was.within, opened, few_candidates D items first (end - first) mid (omega (arith, at, to)) others_stand)
          | inr more ↦ let least : 1 ≤ left = some in omega (arith, at, to, one, more, mul-le-mul_left (arity D - 1) least)
        ]

    module _ (new : List (Bor T × ℕ)) (came : IsPermutation (range_with_len first (end - first) ++ places_of mid) (places_of new)) where
      pub given_step : IsPermutation (not_given D items old) (c.0.now ∷ not_given D items new)
      given_step = rest_step D items c.0.now old mid new (range_with_len first (end - first)) (rest_opened D items c old mid first end given_stands at to taken) came

      pub one_more : length items - length (not_given D items new) ≡ length items - length (not_given D items old) + 1
      one_more = omega (arith, was.within, length_permutation _ _ given_step)

      pub candidates_stay : StandAtPlaces items new → IsHeapOrdered (by_shown cmp) 4 new → length new ≡ length mid + (end - first) → AreCandidates cmp D items new (left - 1) room
      candidates_stay stand heap len =
          let one = length_permutation old (c ∷ mid) taken in
          let step = length_permutation _ _ given_step in
          let more : (arity D - 1) * (length items - length (not_given D items new)) ≡ (arity D - 1) * (length items - length (not_given D items old)) + (arity D - 1) =
          omega (arith, ap (λ n. (arity D - 1) * n) one_more) in
          let before : left ≡ left - 1 + 1 = omega (arith, some) in
          let less : (arity D - 1) * left ≡ (arity D - 1) * (left - 1) + (arity D - 1) = omega (arith, ap (λ n. (arity D - 1) * n) before) in
          record {
            ordered = was.ordered;
            heap = heap;
            stand = stand;
            enough = omega (arith, was.enough, step);
            within = omega (arith, was.within, step);
            few = omega (arith, was.few, one, len, more, at, to);
            fits = elim was.fits [
              | inl all ↦ inl all
              | inr fit ↦ inr (omega (arith, fit, one, len, less, at, to))
            ];
          }

      pub next_counted : (a b e n : ℕ) → n ≡ length mid + (end - first) → RisesWithin a b (pop_bound 4 (length old)) → RisesWithin b e ((end - first) * push_bound 4 (n - 1))
          → RisesWithin a e (next_bound D (length items - length (not_given D items old)))
      next_counted a b e n len popped pushed =
          let given = length items - length (not_given D items old) in
          let one = length_permutation old (c ∷ mid) taken in
          let more : (arity D - 1) * (given + 1) ≡ (arity D - 1) * given + (arity D - 1) = omega arith in
          let pop : pop_bound 4 (length old) ≤ pop_bound 4 (candidates_bound D given) = times_depth-later 4 (length old - 2) (candidates_bound D given - 2) (omega (arith, was.few)) in
          let push : (end - first) * push_bound 4 (n - 1) ≤ arity D * push_bound 4 ((arity D - 1) * (given + 1)) =
          mul-le-mul (omega (arith, at, to)) (depth-later 4 (n - 1) ((arity D - 1) * (given + 1)) (omega (arith, was.few, one, len, more, at, to))) in
          record { rises = omega (arith, popped.rises, pushed.rises); within = omega (arith, popped.within, pushed.within, pop, push) }

-- if there is room for candidates, the items that weren't given are below them
pub rest_below : {T : Type 0} (D : ℕ) (items : List T) (candidates : List (Bor T × ℕ)) (room : ℕ) → 0 < room → rest_of D items candidates room ≡ not_given D items candidates
rest_below D items candidates room some = let apart : room ≢ 0 = omega (arith, some) in grind (arith, apart)

-- and there is if any is left to give
pub some_room : {T : Type 0} (cmp : T → T → Ordering) (D : ℕ) (items : List T) (candidates : List (Bor T × ℕ)) (left room : ℕ) → AreCandidates cmp D items candidates left room → 0 < left → 0 < room
some_room cmp D items [] left room h some = absurd (omega (arith, h.enough, some))
some_room cmp D items (c ∷ cs) left room h some = elim h.fits [ inl all ↦ omega (arith, all, some, h.enough, h.within) | inr fit ↦ omega (arith, fit) ]

-- the candidates of a new iterator: none if nothing is left to give, and else the item at the first place
pub record Begins {T : Type 0} (items : List T) (candidates : List (Bor T × ℕ)) (left : ℕ) : Type 0 where
  pub none : left ≡ 0 → candidates ≡ []
  pub first : 0 < left → places_of candidates ≡ 0 ∷ []
  pub stand : StandAtPlaces items candidates

module _ {T : Type 0} (items : List T) where
  pub begins_none : (new : List (Bor T × ℕ)) (left : ℕ) → left ≡ 0 → new ≡ [] → Begins items new left
  begins_none new left none empty = record {
    none = λ _. empty;
    first = λ some. absurd (omega (arith, none, some));
    stand = subst (StandAtPlaces items) (sym empty) (All-nil (StandsAtPlace items));
  }

  pub begins_first : (old new : List (Bor T × ℕ)) (first : Bor T) (left : ℕ) → new ≡ old ++ (first, 0) ∷ [] → old ≡ [] → left ≢ 0 → 0 < length items
      → first.now ≡ get_or items 0 first.now → Begins items new left
  begins_first old new first left came empty some inside is =
      let stands : slice_get items 0 ≡ Some first.now = slice_get_read items (length items) 0 first.now refl inside is in
      let one : new ≡ (first, 0) ∷ [] = came ∙ ap (λ l. l ++ (first, 0) ∷ []) empty in
      record {
        none = λ e. absurd (some e);
        first = λ _. ap places_of one;
        stand = subst (StandAtPlaces items) (sym one) (All-cons (StandsAtPlace items) (first, 0) [] stands (All-nil (StandsAtPlace items)));
      }

module _ {T : Type 0} (cmp : T → T → Ordering) (D : ℕ) (items : List T) (ordered : IsHeapOrdered cmp D items) where
  -- if it is to give any, all items are left
  pub begins_whole : (candidates : List (Bor T × ℕ)) (left : ℕ) → Begins items candidates left → 0 < left → IsPermutation items (not_given D items candidates)
  begins_whole candidates left begins some =
      subst (λ places. IsPermutation items (trees D items places)) (sym (begins.first some)) (IsPermutation-sym (trees D items (0 ∷ [])) items (all_items D items))

  -- what a list of one item at most keeps as a heap
  short_ordered : (cs : List (Bor T × ℕ)) → length cs ≤ 1 → IsHeapOrdered (by_shown cmp) 4 cs
  short_ordered cs short = record {
    below_parent = λ i up. record { not_greater = λ x y here there. absurd (omega (arith, short, up, slice_get_within cs i x here)) };
  }

  pub begins_right : (candidates : List (Bor T × ℕ)) (left room : ℕ) → Begins items candidates left → left ≤ length items
      → room ≡ (if left == 0 then 0 else min (length items) (candidates_bound D left)) → AreCandidates cmp D items candidates left room
  begins_right candidates left room begins inside fits = elim (cases_eq left 0) [
    | inl none ↦
        let spent : (arity D - 1) * left ≡ 0 = omega (arith, ap (λ n. (arity D - 1) * n) none) in
        subst (λ cs. AreCandidates cmp D items cs left room) (sym (begins.none none)) record {
          ordered = ordered;
          heap = short_ordered [] (omega arith);
          stand = All-nil (StandsAtPlace items);
          enough = omega (arith, none);
          within = omega arith;
          few = omega arith;
          fits = inr (omega (arith, spent));
        }
    | inr any ↦
        let some : 0 < left = omega (arith, any) in
        let whole = length_permutation _ _ (begins_whole candidates left begins some) in
        let one : length candidates ≡ 1 = sym (length-map candidates (λ (c : Bor T × ℕ). c.1)) ∙ ap length (begins.first some) in
        let held : room ≡ min (length items) (candidates_bound D left) = fits ∙ grind (arith, any) in
        record {
          ordered = ordered;
          heap = short_ordered candidates (omega (arith, one));
          stand = begins.stand;
          enough = omega (arith, inside, whole);
          within = omega (arith, whole);
          few = omega (arith, whole, one);
          fits = elim (cases_lt room (length items)) [
            | inl less ↦ inr (omega (arith, held, less, one))
            | inr all ↦ inl all
          ];
        }
  ]

  -- at the start all items are left
  pub begins_rest : (candidates : List (Bor T × ℕ)) (left room : ℕ) → Begins items candidates left → left ≤ length items
      → room ≡ (if left == 0 then 0 else min (length items) (candidates_bound D left)) → IsPermutation items (rest_of D items candidates room)
  begins_rest candidates left room begins inside fits = elim (cases_eq left 0) [
    | inl none ↦ let no : room ≡ 0 = grind (arith, fits, none) in subst (λ (n : ℕ). IsPermutation items (rest_of D items candidates n)) (sym no) (IsPermutation-refl items)
    | inr any ↦
        let some : 0 < left = omega (arith, any) in
        let there = some_room cmp D items candidates left room (begins_right candidates left room begins inside fits) some in
        rw (rest_below D items candidates room there) (begins_whole candidates left begins some)
  ]
