-- What keeps a table of places right.
use Rattle.dary_heap.proofs.Common.{◌≡◌, ◌≢◌, ◌⊎◌, ℕ, zero, suc, ◌<◌, ◌≤◌, ◌∷◌, inl, inr, List, length, set, swap, refl, sym, ap, subst, ◌∙◌, arith, Some, slice_get, cases_eq, parent}
use Rattle.dary_heap.proofs.Common.{Contains-permutation, IsPermutation, IsPermutation-sym, get_or_from_slice_get, slice_get-get_or, slice_get_within}
use Rattle.dary_heap.proofs.Order.{Exchanges, exchanges, slice_get-set_other, slice_get-set_same}
use Rattle.dary_heap.proofs.Path.{GoesUp-le, GoesUp-permutation, GoesUpBy-above, lone_on_path, next_on_path, on_path_or_still}
use Rattle.std.proofs.lemmas.List.Sorted.{IsPermutation-keeps}
use Rattle.std.specs.Prelude.{max, min}
use Rattle.dary_heap.specs.Path.{GoesTo, GoesUp, IsAbove, IsOnPath}
use Rattle.dary_heap.specs.Places.{AreRight, AreRightButAt, AreRightOffPath, HaveKeys}

-- what holds of each item holds when they have moved
pub each_moved : {X : Type 0} (P : X → Type 0) (xs ys : List X) → IsPermutation xs ys → ((i : ℕ) (item : X) → slice_get xs i ≡ Some item → P item) →
    (i : ℕ) (item : X) → slice_get ys i ≡ Some item → P item
each_moved P xs ys same h i item there =
    let was = Contains-permutation ys xs item (IsPermutation-sym xs ys same) (i, slice_get_within ys i item there, get_or_from_slice_get ys i item item there) in
    h was.0 item (slice_get-get_or xs was.0 item was.1 ∙ ap Some was.2)

-- where an item stood before an exchange
came_from : {X : Type 0} (xs ys : List X) (a b : ℕ) → Exchanges xs ys a b → (i : ℕ) → (k : ℕ) × (slice_get ys i ≡ slice_get xs k) × (i ≡ a → k ≡ b) × (i ≡ b → k ≡ a) × (i ≢ a → i ≢ b → k ≡ i)
came_from xs ys a b e i = elim (cases_eq i a) [
  | inl at ↦ (b, ap (slice_get ys) at ∙ e.first, (λ _. refl), (λ is. omega (arith, at, is)), (λ u v. absurd (u at)))
  | inr u ↦ elim (cases_eq i b) [
    | inl at ↦ (a, ap (slice_get ys) at ∙ e.second, (λ is. absurd (u is)), (λ _. refl), (λ _ v. absurd (v at)))
    | inr v ↦ (i, e.others i u v, (λ is. absurd (u is)), (λ is. absurd (v is)), (λ _ _. refl))
  ]
]

-- two items came from two places
came_apart : (a b i j s t : ℕ) → i ≢ j → (i ≡ a → s ≡ b) → (i ≡ b → s ≡ a) → (i ≢ a → i ≢ b → s ≡ i) → (j ≡ a → t ≡ b) → (j ≡ b → t ≡ a) → (j ≢ a → j ≢ b → t ≡ j) → s ≢ t
came_apart a b i j s t ne p q r x y z e = grind arith

module _ {X : Type 0} (key : X → ℕ) where
  -- a table that is right has a place for each key
  pub right_keys : {xs : List X} {places : List ℕ} → AreRight key xs places → HaveKeys key (length places) xs
  right_keys {places = places} h = record {
    below = λ i item there. slice_get_within places (key item) i (h.right i item there);
    distinct = λ i j a b there here same.
        let one = h.right i a there in
        let other = h.right j b here in
        let both : slice_get places (key a) ≡ slice_get places (key b) = ap (slice_get places) same in
        cc;
  }

  -- and is so but at any place
  pub right_but_at : (place : ℕ) {xs : List X} {places : List ℕ} → AreRight key xs places → AreRightButAt key place xs places
  right_but_at place h = record { elsewhere = λ i item _. h.right i item }

  -- items that move have the keys that they had
  pub keys_moved : {limit : ℕ} (xs ys : List X) → IsPermutation xs ys → HaveKeys key limit xs → HaveKeys key limit ys
  keys_moved {limit} xs ys same keys = IsPermutation-keeps xs (HaveKeys key limit) keys (λ l a b p q h.
      let from = came_from l (swap l a b) a b (exchanges l (swap l a b) a b p q refl) in
      record {
        below = λ i item there. h.below (from i).0 item (sym (from i).1 ∙ there);
        distinct = λ i j x y there here equal. let u = from i in let v = from j in elim (cases_eq i j) [
          | inl is ↦ is
          | inr apart ↦ absurd (came_apart a b i j u.0 v.0 apart u.2 u.3 u.4 v.2 v.3 v.4 (h.distinct u.0 v.0 x y (sym u.1 ∙ there) (sym v.1 ∙ here) equal))
        ];
      }) ys same

  module _ {limit : ℕ} (x : X) (xs : List X) where
    -- an item more, whose key no other has
    pub keys_more : HaveKeys key limit xs → key x < limit → ((i : ℕ) (item : X) → slice_get xs i ≡ Some item → key item ≢ key x) → HaveKeys key limit (x ∷ xs)
    keys_more h inside none = record { below = below; distinct = distinct } where
      below : (i : ℕ) (item : X) → slice_get (x ∷ xs) i ≡ Some item → key item < limit
      below zero item there = let is : x ≡ item = (cc) in subst (λ k. key k < limit) is inside
      below (suc i) item there = h.below i item there

      distinct : (i j : ℕ) (a b : X) → slice_get (x ∷ xs) i ≡ Some a → slice_get (x ∷ xs) j ≡ Some b → key a ≡ key b → i ≡ j
      distinct zero zero a b there here same = refl
      distinct zero (suc j) a b there here same = let is : x ≡ a = (cc) in absurd (none j b here (sym same ∙ ap key (sym is)))
      distinct (suc i) zero a b there here same = let is : x ≡ b = (cc) in absurd (none i a there (same ∙ ap key (sym is)))
      distinct (suc i) (suc j) a b there here same = ap suc (h.distinct i j a b there here same)

    -- an item less, whose key no other has
    pub keys_less : HaveKeys key limit (x ∷ xs) → HaveKeys key limit xs
    keys_less h = record { below = λ i. h.below (suc i); distinct = λ i j a b there here same. omega (arith, h.distinct (suc i) (suc j) a b there here same) }

    pub key_gone : HaveKeys key limit (x ∷ xs) → (i : ℕ) (item : X) → slice_get xs i ≡ Some item → key item ≢ key x
    key_gone h i item there same = absurd (omega (arith, h.distinct (suc i) 0 item x there refl same))

  -- the place of the item at the first place of a path is written, and the rest of the path is left
  module _ (D : ℕ) (xs : List X) (places : List ℕ) (at high : ℕ) (x : X) (there : slice_get xs at ≡ Some x) (keys : HaveKeys key (length places) xs) (h : AreRightOffPath key D at high xs places) where
    noted : (i : ℕ) (item : X) → (i ≢ at → IsOnPath D at high i → ⊥) → slice_get xs i ≡ Some item → slice_get (set places (key x) at) (key item) ≡ Some i
    noted i item off here = elim (cases_eq i at) [
      | inl is ↦
          let now : slice_get xs at ≡ Some item = subst (λ (k : ℕ). slice_get xs k ≡ Some item) is here in
          let same : item ≡ x = (cc) in
          ap (λ (e : X). slice_get (set places (key x) at) (key e)) same ∙ slice_get-set_same places (key x) at (keys.below at x there) ∙ ap Some (sym is)
      | inr apart ↦ slice_get-set_other places (key x) (key item) at (λ same. apart (keys.distinct i at item x here there same)) ∙ h.elsewhere i item (off apart) here
    ]

    pub noted_next : AreRightOffPath key D (parent D at) high xs (set places (key x) at)
    noted_next = record { elsewhere = λ i item off here. noted i item (λ apart on. off (next_on_path D at high i apart on)) here }

    pub noted_last : at ≤ high → AreRight key xs (set places (key x) at)
    noted_last ends = record { right = λ i item here. noted i item (λ apart on. apart (lone_on_path D at high i ends on)) here }

  -- an item that stayed where it was, with its place in the table
  pub stayed : (D at : ℕ) (xs : List X) {places : List ℕ} (x : X) → slice_get xs at ≡ Some x → slice_get places (key x) ≡ Some at → AreRightOffPath key D at at xs places → AreRight key xs places
  stayed D at xs {places} x there noted h = record {
    right = λ i item here. elim (cases_eq i at) [
      | inl is ↦
          let now : slice_get xs at ≡ Some item = subst (λ (k : ℕ). slice_get xs k ≡ Some item) is here in
          let same : item ≡ x = (cc) in
          ap (λ (e : X). slice_get places (key e)) same ∙ noted ∙ ap Some (sym is)
      | inr apart ↦ h.elsewhere i item (λ on. apart (lone_on_path D at at i (omega arith) on)) here
    ];
  }

  module _ (D low high : ℕ) (xs ys : List X) {places : List ℕ} where
    off_path : (from : ℕ) → IsOnPath D low high from → ((i : ℕ) → IsOnPath D low high i ⊎ (slice_get ys i ≡ slice_get xs i)) → AreRightButAt key from xs places →
        AreRightOffPath key D low high ys places
    off_path from on still h = record {
      elsewhere = λ i item off here. elim (still i) [
        | inl along ↦ absurd (off along)
        | inr stays ↦ h.elsewhere i item (λ is. off (subst (IsOnPath D low high) (sym is) on)) (sym stays ∙ here)
      ];
    }

    -- an item went up or down, and its own place was any: the table is right off the path
    pub went_up : {limit : ℕ} → low < length xs → GoesUp D low high xs ys → HaveKeys key limit xs → AreRightButAt key low xs places →
        HaveKeys key limit ys × AreRightOffPath key D low high ys places
    went_up inside goes keys h =
        let on : IsOnPath D low high low = record { above_low = record { levels = 0; there = refl }; below_high = GoesUpBy-above D goes.levels low high xs ys goes.way } in
        (keys_moved xs ys (GoesUp-permutation D low high xs ys inside goes) keys, off_path low on (on_path_or_still D low high xs ys inside goes) h)

    pub went_down : {limit : ℕ} → low < length ys → GoesUp D low high ys xs → HaveKeys key limit xs → AreRightButAt key high xs places →
        HaveKeys key limit ys × AreRightOffPath key D low high ys places
    went_down inside goes keys h =
        let on : IsOnPath D low high high = record { above_low = GoesUpBy-above D goes.levels low high ys xs goes.way; below_high = record { levels = 0; there = refl } } in
        let still = on_path_or_still D low high ys xs inside goes in
        let same = IsPermutation-sym ys xs (GoesUp-permutation D low high ys xs inside goes) in
        (keys_moved xs ys same keys, off_path high on (λ i. elim (still i) [ inl along ↦ inl along | inr stays ↦ inr (sym stays) ]) h)

  -- either way, the path is that between the two places
  module _ (D at to low high : ℕ) (xs ys : List X) (lower : low ≡ max at to) (higher : high ≡ min at to) (goes : GoesTo D at to xs ys) where
    falls : to ≤ at → (low ≡ at) × (high ≡ to)
    falls le = (omega (arith, lower, le), omega (arith, higher, le))

    climbs : at ≤ to → (low ≡ to) × (high ≡ at)
    climbs le = (omega (arith, lower, le), omega (arith, higher, le))

    pub went_above : IsAbove D high low
    went_above = elim goes [
      | inl up ↦ (let is = falls (GoesUp-le D at to up) in rw (is.0, is.1) (GoesUpBy-above D up.levels at to xs ys up.way))
      | inr down ↦ (let is = climbs (GoesUp-le D to at down) in rw (is.0, is.1) (GoesUpBy-above D down.levels to at ys xs down.way))
    ]

    pub went : {limit : ℕ} {places : List ℕ} → at < length xs → to < length ys → HaveKeys key limit xs → AreRightButAt key at xs places →
        HaveKeys key limit ys × AreRightOffPath key D low high ys places
    went inside stops keys h = elim goes [
      | inl up ↦ (let is = falls (GoesUp-le D at to up) in rw (is.0, is.1) (went_up D at to xs ys inside up keys h))
      | inr down ↦ (let is = climbs (GoesUp-le D to at down) in rw (is.0, is.1) (went_down D to at xs ys stops down keys h))
    ]
