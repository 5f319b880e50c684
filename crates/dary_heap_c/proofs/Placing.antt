-- What keeps places right.
use Rattle.dary_heap.proofs.Common.{◌≡◌, ◌≢◌, ◌-◌, ◌<◌, ◌≤◌, ◌∷◌, ◌++◌, ◌∙◌, ℕ, suc, List, [], length, set, take, swap, refl, sym, ap, subst, arith, inl, inr, Some, slice_get}
use Rattle.dary_heap.proofs.Common.{cases_eq, cases_lt, IsPermutation, IsPermutation-append_comm, IsPermutation-append_left, IsPermutation-trans}
use Rattle.dary_heap.proofs.Common.{Ordering, IsHeapOrdered, IsHeapOrderedButAt, length-append, length-set, length_permutation, slice_get_within}
use Rattle.dary_heap.proofs.Depth.{parent-below}
use Rattle.dary_heap.proofs.Order.{Exchanges, exchanges, slice_get-set_other, slice_get-set_same, slice_get-append, slice_get-push}
use Rattle.dary_heap.proofs.Placing.{each_moved, key_gone, keys_less, keys_moved}
use Rattle.dary_heap.proofs.sift.Parts.{whole}
use Rattle.dary_heap.proofs.sift.Sorting.{but_last_is, moved_last}
use Rattle.dary_heap.specs.Path.{GivesPlace, GoesTo}
use Rattle.dary_heap.specs.Places.{AreRightButAt}
use Rattle.std.proofs.lemmas.List.{take_at}
use Rattle.std.proofs.lemmas.List.Sorted.{IsPermutation-swap}
use Rattle.std.specs.Prelude.{pos}
use Rattle.dary_heap_c.specs.declared.entry.Entry.{Entry}
use Rattle.dary_heap_c.specs.Places.{AreDistinct, AreRight, AreRightOffPath, HaveKeys, IsFree, IsKeyAt, Rights, value_of}

-- what would be read past the end
abbrev pub zero_entry : Entry
zero_entry = record { key = pos 0; value = 0 }

-- no other place is written
pub noted_other : (xs : List Entry) (places : List ℕ) (at : ℕ) (x : Entry) → slice_get xs at ≡ Some x → (value : ℕ) → IsFree value xs → slice_get (set places x.value at) value ≡ slice_get places value
noted_other xs places at x there value free = slice_get-set_other places x.value value at (λ same. free.none at x there (sym same))

-- a value that no item has when they have moved
stays_free : {value : ℕ} (xs ys : List Entry) → IsPermutation xs ys → IsFree value xs → IsFree value ys
stays_free {value} xs ys same h = record { none = each_moved (λ item. item.value ≢ value) xs ys same h.none }

-- a value whose place is right is one
have_keys : {place : ℕ} (xs : List Entry) (places : List ℕ) → AreDistinct xs → IsKeyAt (length places) place xs → AreRightButAt value_of place xs places → HaveKeys (length places) xs
have_keys {place = place} xs places apart key h = record {
  below = λ i item there. elim (cases_eq i place) [
    | inl is ↦ key.below item (subst (λ (k : ℕ). slice_get xs k ≡ Some item) is there)
    | inr other ↦ slice_get_within places item.value i (h.elsewhere i item other there)
  ];
  distinct = apart.distinct;
}

-- items moved along a path, and their places are written
pub rights : (D low high from : ℕ) (xs ys : List Entry) (before after : List ℕ) → IsPermutation xs ys
    → (HaveKeys (length before) xs → AreRightButAt value_of from xs before → HaveKeys (length before) ys × AreRightOffPath D low high ys before)
    → (HaveKeys (length before) ys → AreRightOffPath D low high ys before → AreRight ys after)
    → ((value : ℕ) → IsFree value ys → slice_get after value ≡ slice_get before value) → Rights from xs ys before after
rights D low high from xs ys before after same went right others = record {
  right = λ apart key h. let now = went (have_keys xs before apart key h) h in right now.0 now.1;
  others = λ value free. others value (stays_free xs ys same free);
}

-- the item at a place changed places with the last, whose place is written
module _ (xs rest : List Entry) (last : Entry) (place : ℕ) (inside : place < length xs) (is : swap xs place (length xs - 1) ≡ rest ++ last ∷ []) where
  exchange : Exchanges xs (rest ++ last ∷ []) place (length xs - 1)
  exchange = exchanges xs (rest ++ last ∷ []) place (length xs - 1) inside (omega (arith, inside)) (sym is)

  pub one_less : length rest ≡ length xs - 1
  one_less = omega (arith, exchange.len, length-append rest (last ∷ []))

  was_last : slice_get xs place ≡ Some last
  was_last = sym exchange.second ∙ ap (slice_get (rest ++ last ∷ [])) (sym one_less) ∙ slice_get-push rest last

  pub others_stay : (k : ℕ) → k ≢ place → k < length rest → slice_get rest k ≡ slice_get xs k
  others_stay k other within = sym (slice_get-append rest (last ∷ []) k within) ∙ exchange.others k other (omega (arith, within, one_less))

  whole_bag : IsPermutation xs (rest ++ last ∷ [])
  whole_bag = IsPermutation-swap xs (rest ++ last ∷ []) place (length xs - 1) inside (omega (arith, inside)) (sym is)

  in_front : IsPermutation xs (last ∷ rest)
  in_front = IsPermutation-trans xs (rest ++ last ∷ []) (last ∷ rest) whole_bag (IsPermutation-append_comm rest (last ∷ []))

  module _ (zs : List Entry) (bag : IsPermutation rest zs) where
    pub bag_behind : IsPermutation xs (zs ++ last ∷ [])
    bag_behind = IsPermutation-trans xs (rest ++ last ∷ []) (zs ++ last ∷ []) whole_bag (IsPermutation-append_left (last ∷ []) rest zs bag)

    pub comes_last : slice_get (zs ++ last ∷ []) (length (zs ++ last ∷ []) - 1) ≡ slice_get xs place
    comes_last = moved_last zs last ∙ sym was_last

    -- and those of the others that have moved are on the path of the last
    pub gives_place : (D to : ℕ) → GoesTo D place to rest zs → GivesPlace D place to xs (zs ++ last ∷ [])
    gives_place D to way =
        let front : take (length xs - 1) (swap xs place (length xs - 1)) ≡ rest = ap (take (length xs - 1)) is ∙ take_at rest (last ∷ []) (length xs - 1) (omega (arith, one_less)) in
        subst (λ l. GoesTo D place to l (take (length (zs ++ last ∷ []) - 1) (zs ++ last ∷ []))) (sym front) (subst (GoesTo D place to rest) (sym (but_last_is zs last)) way)

    -- the places of the others become right, and that of the last stays
    pub removed : (before after : List ℕ) → Rights place rest zs (set before last.value (length xs - 1)) after → Rights place xs (zs ++ last ∷ []) before after
    removed before after h = record {
      right = λ apart key right.
          let keys = have_keys xs before apart key right in
          let at = length xs - 1 in
          let now = set before last.value at in
          let moved = keys_moved value_of xs (last ∷ rest) in_front keys in
          let left = keys_less value_of last rest moved in
          let other = key_gone value_of last rest moved in
          let still : AreDistinct rest = record { distinct = left.distinct } in
          let below : IsKeyAt (length now) place rest = record { below = λ item there. omega (arith, left.below place item there, length-set before last.value at) } in
          let sifted = h.right still below (record {
            elsewhere = λ i item apart there. slice_get-set_other before last.value item.value at (other i item there)
                ∙ right.elsewhere i item apart (sym (others_stay i apart (slice_get_within rest i item there)) ∙ there);
          }) in
          let behind : slice_get after last.value ≡ Some at =
          h.others last.value (record { none = other }) ∙ slice_get-set_same before last.value at (keys.below place last was_last) in
          record {
            right = λ i item there. elim (cases_lt i (length zs)) [
              | inl within ↦ sifted.right i item (sym (slice_get-append zs (last ∷ []) i within) ∙ there)
              | inr past ↦
                  let within = slice_get_within (zs ++ last ∷ []) i item there in
                  let here : i ≡ length zs = omega (arith, past, within, length-append zs (last ∷ [])) in
                  let found = subst (λ (k : ℕ). slice_get (zs ++ last ∷ []) k ≡ Some item) here there in
                  let same : item ≡ last = (let end = slice_get-push zs last in cc) in
                  ap (λ (e : Entry). slice_get after e.value) same ∙ behind ∙ ap Some (omega (arith, here, one_less, length_permutation rest zs bag))
            ];
          };
      others = λ value free. h.others value (record { none = λ i. (stays_free xs (last ∷ rest) in_front free).none (suc i) })
          ∙ slice_get-set_other before last.value value (length xs - 1) (λ equal. free.none place last was_last (sym equal));
    }

-- there is no item at the place
pub none_there : (place : ℕ) (xs : List Entry) (places : List ℕ) → length xs ≤ place → Rights place xs xs places places
none_there place xs places none = record {
  right = λ apart key h. record { right = λ i item there. h.elsewhere i item (let within = slice_get_within xs i item there in omega (arith, within, none)) there };
  others = λ value free. refl;
}

-- heap order but for an item that isn't there
pub behind_ordered : {cmp : Entry → Entry → Ordering} (D : ℕ) (xs : List Entry) (place : ℕ) → length xs ≤ place → IsHeapOrderedButAt cmp D place xs → IsHeapOrdered cmp D xs
behind_ordered D xs place past h = whole D xs place past (record { below_parent = λ i pos to low. h.elsewhere i pos (omega (arith, to)) (omega (arith, to, parent-below D i pos)) })
