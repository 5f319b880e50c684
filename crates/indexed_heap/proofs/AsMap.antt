-- The entries read as a map: the item of a key, and what each change of the entries makes of it.
use Rattle.dary_heap.proofs.Common.{◌≡◌, ◌≢◌, ℕ, zero, suc, List, [], ◌∷◌, ◌++◌}
use Rattle.dary_heap.proofs.Common.{Option, Some, None, if◌then◌else◌, refl, sym, ap, ◌∙◌, subst, arith, inl, inr, cases_eq, ne_eqb}
use Rattle.dary_heap.proofs.Common.{slice_get, slice_get-get_or, slice_get_within, Contains, Contains-permutation, IsPermutation, IsPermutation-sym}
use Rattle.dary_heap.proofs.Callers.{Contains-cases, Contains-first, Contains-later, IsPermutation-uncons}
use Rattle.std.proofs.lemmas.Bool.{eq-eqb}
use Rattle.indexed_heap.specs.Entries.{AreDistinct, Gets, IsAbsent, Loses, entries_of, item_of}

module _ {T : Type 0} where
  -- where an entry stands that is there
  stands : (entries : List (ℕ × T)) (entry : ℕ × T) → (in' : Contains entries entry) → slice_get entries in'.0 ≡ Some entry
  stands entries entry in' = slice_get-get_or entries in'.0 entry in'.1 ∙ ap Some in'.2

  -- a key that is absent has no entry
  pub none_there : (key : ℕ) (entries : List (ℕ × T)) (item : T) → IsAbsent key entries → Contains entries (key, item) → ⊥
  none_there key entries item h in' = h.none in'.0 (key, item) (stands entries (key, item) in') refl

  -- a key has one item
  pub one_item : (key : ℕ) (entries : List (ℕ × T)) (a b : T) → AreDistinct entries → Contains entries (key, a) → Contains entries (key, b) → a ≡ b
  one_item key entries a b once first second =
      let here = stands entries (key, a) first in
      let there = stands entries (key, b) second in
      let same : first.0 ≡ second.0 = once.once first.0 second.0 (key, a) (key, b) here there refl in
      let both : slice_get entries first.0 ≡ slice_get entries second.0 = ap (slice_get entries) same in
      let equal : (key, a) ≡ (key, b) = (cc) in
      ap (λ (e : ℕ × T). e.1) equal

module _ {T : Type 0} (key : ℕ) where
  pub item_of-first : (entry : ℕ × T) (entries : List (ℕ × T)) → entry.0 ≡ key → item_of key (entry ∷ entries) ≡ Some entry.1
  item_of-first entry entries is = ap (λ b. if b then Some entry.1 else item_of key entries) (eq-eqb entry.0 key is)

  pub item_of-later : (entry : ℕ × T) (entries : List (ℕ × T)) → entry.0 ≢ key → item_of key (entry ∷ entries) ≡ item_of key entries
  item_of-later entry entries apart = ap (λ b. if b then Some entry.1 else item_of key entries) (ne_eqb entry.0 key apart)

  -- an absent key has no item
  pub item_of-absent : (entries : List (ℕ × T)) → IsAbsent key entries → item_of key entries ≡ None
  item_of-absent [] h = refl
  item_of-absent (entry ∷ entries) h = item_of-later entry entries (h.none 0 entry refl) ∙ item_of-absent entries (record { none = λ i e there. h.none (suc i) e there })

  -- the item of a key stands in an entry
  pub item_of-there : (entries : List (ℕ × T)) (item : T) → item_of key entries ≡ Some item → Contains entries (key, item)
  item_of-there [] item h = cc
  item_of-there (entry ∷ entries) item h = elim (cases_eq entry.0 key) [
    | inl is ↦
        let first = item_of-first entry entries is in
        let same : entry.1 ≡ item = (cc) in
        let whole : entry ≡ (key, item) = λ i. (is i, same i) in
        subst (λ (e : ℕ × T). Contains (entry ∷ entries) e) whole (Contains-first entry entries)
    | inr apart ↦ Contains-later entry entries (key, item) (item_of-there entries item (sym (item_of-later entry entries apart) ∙ h))
  ]

  absent_later : (entry : ℕ × T) (entries : List (ℕ × T)) → entry.0 ≢ key → IsAbsent key entries → (i : ℕ) (e : ℕ × T) → slice_get (entry ∷ entries) i ≡ Some e → e.0 ≢ key
  absent_later entry entries apart h zero e there = λ same. let first : entry ≡ e = (cc) in apart (ap (λ (x : ℕ × T). x.0) first ∙ same)
  absent_later entry entries apart h (suc i) e there = h.none i e there

  -- a key without an item is absent
  pub item_of-none : (entries : List (ℕ × T)) → item_of key entries ≡ None → IsAbsent key entries
  item_of-none [] h = record { none = λ i e there. absurd (omega (arith, slice_get_within [] i e there)) }
  item_of-none (entry ∷ entries) h = elim (cases_eq entry.0 key) [
    | inl is ↦ (let first = item_of-first entry entries is in cc)
    | inr apart ↦ record { none = absent_later entry entries apart (item_of-none entries (sym (item_of-later entry entries apart) ∙ h)) }
  ]

  has_by : (entries : List (ℕ × T)) (item : T) → AreDistinct entries → Contains entries (key, item) → (found : Option T) → item_of key entries ≡ found → item_of key entries ≡ Some item
  has_by entries item once in' None e = absurd (none_there key entries item (item_of-none entries e) in')
  has_by entries item once in' (Some other) e = e ∙ ap Some (one_item key entries other item once (item_of-there entries other e) in')

  -- the item of an entry is that of its key
  pub item_of-has : (entries : List (ℕ × T)) (item : T) → AreDistinct entries → Contains entries (key, item) → item_of key entries ≡ Some item
  item_of-has entries item once in' = has_by entries item once in' (item_of key entries) refl

  module _ (xs ys : List (ℕ × T)) (ys_once : AreDistinct ys) (to : (item : T) → Contains xs (key, item) → Contains ys (key, item))
      (from : (item : T) → Contains ys (key, item) → Contains xs (key, item)) where
    agrees_by : (a b : Option T) → item_of key xs ≡ a → item_of key ys ≡ b → item_of key ys ≡ item_of key xs
    agrees_by (Some item) b e f = item_of-has ys item ys_once (to item (item_of-there xs item e)) ∙ sym e
    agrees_by None None e f = f ∙ sym e
    agrees_by None (Some item) e f = absurd (none_there key xs item (item_of-none xs e) (from item (item_of-there ys item f)))

    -- a key that has the same entries has the same item
    pub item_of-agrees : item_of key ys ≡ item_of key xs
    item_of-agrees = agrees_by (item_of key xs) (item_of key ys) refl refl

module _ {T : Type 0} (key : ℕ) where
  -- an entry of another key
  other_later : (item : T) (entries : List (ℕ × T)) (k : ℕ) (v : T) → k ≢ key → Contains ((key, item) ∷ entries) (k, v) → Contains entries (k, v)
  other_later item entries k v apart in' = elim (Contains-cases (key, item) entries (k, v) in') [
    | inl is ↦ absurd (apart (sym (ap (λ (e : ℕ × T). e.0) is)))
    | inr later ↦ later
  ]

  others_left : (given : Option T) (new : List (ℕ × T)) (k : ℕ) (v : T) → k ≢ key → Contains (entries_of key given ++ new) (k, v) → Contains new (k, v)
  others_left None new k v apart in' = in'
  others_left (Some item) new k v apart in' = other_later item new k v apart in'

  left_others : (given : Option T) (new : List (ℕ × T)) (entry : ℕ × T) → Contains new entry → Contains (entries_of key given ++ new) entry
  left_others None new entry in' = in'
  left_others (Some item) new entry in' = Contains-later (key, item) new entry in'

  -- after a key got an item, that is its item, and other keys have theirs
  pub Gets-here : (item : T) (old new : List (ℕ × T)) (given : Option T) → Gets key item old given new → AreDistinct new → item_of key new ≡ Some item
  Gets-here item old new given h once = item_of-has key new item once h.has

  pub Gets-others : (item : T) (old new : List (ℕ × T)) (given : Option T) → Gets key item old given new → AreDistinct new → (k : ℕ) → k ≢ key → item_of k new ≡ item_of k old
  Gets-others item old new given h once k apart =
      let both = (key, item) ∷ old in
      let left = entries_of key given ++ new in
      item_of-agrees k old new once
      (λ v in'. others_left given new k v apart (Contains-permutation both left (k, v) h.bag (Contains-later (key, item) old (k, v) in')))
      (λ v in'. other_later item old k v apart (Contains-permutation left both (k, v) (IsPermutation-sym both left h.bag) (left_others given new (k, v) in')))

  -- and it gave the item that the key had
  pub Gets-given : (item : T) (old new : List (ℕ × T)) (given : Option T) → Gets key item old given new → AreDistinct old → given ≡ item_of key old
  Gets-given item old new None h once = sym (item_of-absent key old h.absent)
  Gets-given item old new (Some had) h once =
      let both = (key, item) ∷ old in
      let left = (key, had) ∷ new in
      let came : Contains both (key, had) = Contains-permutation left both (key, had) (IsPermutation-sym both left h.bag) (Contains-first (key, had) new) in
      let was : Contains old (key, had) = elim (Contains-cases (key, item) old (key, had) came) [
        | inl is ↦
            let same : IsPermutation both ((key, item) ∷ new) = subst (λ (e : ℕ × T). IsPermutation both (e ∷ new)) (sym is) h.bag in
            let rest : IsPermutation old new = IsPermutation-uncons (key, item) old new same in
            subst (λ (e : ℕ × T). Contains old e) is (Contains-permutation new old (key, item) (IsPermutation-sym old new rest) h.has)
        | inr later ↦ later
      ] in
      sym (item_of-has key old had once was)

  -- a key that lost its item had the one that was given, and other keys have theirs
  pub Loses-given : (old new : List (ℕ × T)) (given : Option T) → Loses key old given new → AreDistinct old → given ≡ item_of key old
  Loses-given old new None h once = sym (item_of-absent key old h.absent)
  Loses-given old new (Some had) h once =
      let left = (key, had) ∷ new in
      sym (item_of-has key old had once (Contains-permutation left old (key, had) (IsPermutation-sym old left h.bag) (Contains-first (key, had) new)))

  pub Loses-others : (old new : List (ℕ × T)) (given : Option T) → Loses key old given new → AreDistinct new → (k : ℕ) → k ≢ key → item_of k new ≡ item_of k old
  Loses-others old new given h once k apart =
      let left = entries_of key given ++ new in
      item_of-agrees k old new once
      (λ v in'. others_left given new k v apart (Contains-permutation old left (k, v) h.bag in'))
      (λ v in'. Contains-permutation left old (k, v) (IsPermutation-sym old left h.bag) (left_others given new (k, v) in'))

-- a pop takes the entry of its key out
pub pop_loses : {T : Type 0} (old new : List (ℕ × T)) (entry : ℕ × T) → IsPermutation old (entry ∷ new) → Loses entry.0 old (Some entry.1) new
pop_loses old new entry bag = record { bag = bag; absent = tt }
