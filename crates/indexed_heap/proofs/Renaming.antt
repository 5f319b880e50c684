-- An entry that gets another key.
use Rattle.dary_heap.proofs.Common.{◌≡◌, ◌≢◌, ℕ, zero, suc, ◌<◌, List, [], ◌∷◌, length, set, map, refl, sym, ap, ◌∙◌, subst, inl, inr, arith, if◌then◌else◌, Option, None, Some, slice_get}
use Rattle.dary_heap.proofs.Common.{slice_get_within, cases_eq, ne_eqb, Ordering, IsHeapOrdered, parent}
use Rattle.dary_heap.proofs.Order.{slice_get-set_other, slice_get-set_same}
use Rattle.std.proofs.lemmas.Bool.{eq-eqb}
use Rattle.std.specs.Prelude.{◌==◌}
use Rattle.indexed_heap.specs.Entries.{AreDistinct, IsAbsent, by_item, item_of}
use Rattle.indexed_heap.specs.Places.{AreRight}
use Rattle.indexed_heap.specs.Renaming.{rekeyed}

module _ {X : Type 0} (entries : List (ℕ × X)) (at to : ℕ) (old : ℕ × X) (was : slice_get entries at ≡ Some old) where
  abbrev put : ℕ × X
  put = (to, old.1)

  -- where an entry stands now, one with its item stood
  stood : (i : ℕ) (entry : ℕ × X) → slice_get (set entries at put) i ≡ Some entry → (x : ℕ × X) × (slice_get entries i ≡ Some x) × (x.1 ≡ entry.1)
  stood i entry there = elim (cases_eq i at) [
    | inl here ↦
        let held : slice_get (set entries at put) at ≡ Some entry = subst (λ (k : ℕ). slice_get (set entries at put) k ≡ Some entry) here there in
        let now = slice_get-set_same entries at put (slice_get_within entries at old was) in
        let is : entry ≡ put = (cc) in
        (old, ap (slice_get entries) here ∙ was, sym (ap (λ (e : ℕ × X). e.1) is))
    | inr apart ↦ (entry, sym (slice_get-set_other entries at i put apart) ∙ there, refl)
  ]

  -- heap order doesn't read keys
  pub rekeyed_ordered : (cmp : X → X → Ordering) (D : ℕ) → IsHeapOrdered (by_item cmp) D entries → IsHeapOrdered (by_item cmp) D (set entries at put)
  rekeyed_ordered cmp D h = record {
    below_parent = λ i above. record {
      not_greater = λ x y x_at y_at e.
          let a = stood i x x_at in let b = stood (parent D i) y y_at in
          (h.below_parent i above).not_greater a.0 b.0 a.1 b.1 (ap (λ (k : X). cmp k b.0.1) a.2 ∙ ap (cmp x.1) b.2 ∙ e);
    };
  }

  -- places stay right if the place of the entry is written at its new key
  pub rekeyed_right : (places : List ℕ) → to < length places → IsAbsent to entries → AreRight entries places → AreRight (set entries at put) (set places to at)
  rekeyed_right places inside free h = record {
    right = λ i entry there. elim (cases_eq i at) [
      | inl here ↦
          let held : slice_get (set entries at put) at ≡ Some entry = subst (λ (k : ℕ). slice_get (set entries at put) k ≡ Some entry) here there in
          let now = slice_get-set_same entries at put (slice_get_within entries at old was) in
          let is : entry ≡ put = (cc) in
          ap (λ (e : ℕ × X). slice_get (set places to at) e.0) is ∙ slice_get-set_same places to at inside ∙ ap Some (sym here)
      | inr apart ↦
          let stands = sym (slice_get-set_other entries at i put apart) ∙ there in
          slice_get-set_other places to entry.0 at (free.none i entry stands) ∙ h.right i entry stands
    ];
  }

module _ {X : Type 0} (key to : ℕ) where
  pub rekeyed_here : (entry : ℕ × X) → entry.0 ≡ key → rekeyed key to entry ≡ (to, entry.1)
  rekeyed_here entry is = ap (λ b. if b then (to, entry.1) else entry) (eq-eqb entry.0 key is)

  pub rekeyed_other : (entry : ℕ × X) → entry.0 ≢ key → rekeyed key to entry ≡ entry
  rekeyed_other entry apart = ap (λ b. if b then (to, entry.1) else entry) (ne_eqb entry.0 key apart)

  -- the item stays
  pub rekeyed_item : (entry : ℕ × X) → (rekeyed key to entry).1 ≡ entry.1
  rekeyed_item entry = elim (cases_eq entry.0 key) [
    | inl is ↦ ap (λ (e : ℕ × X). e.1) (rekeyed_here entry is)
    | inr apart ↦ ap (λ (e : ℕ × X). e.1) (rekeyed_other entry apart)
  ]

  found_first : (k : ℕ) (entry : ℕ × X) (entries : List (ℕ × X)) → entry.0 ≡ k → item_of k (entry ∷ entries) ≡ Some entry.1
  found_first k entry entries is = ap (λ b. if b then Some entry.1 else item_of k entries) (eq-eqb entry.0 k is)

  found_later : (k : ℕ) (entry : ℕ × X) (entries : List (ℕ × X)) → entry.0 ≢ k → item_of k (entry ∷ entries) ≡ item_of k entries
  found_later k entry entries apart = ap (λ b. if b then Some entry.1 else item_of k entries) (ne_eqb entry.0 k apart)

  -- the first entry, with its new key or the one that it keeps
  first_here : (k : ℕ) (entry : ℕ × X) (entries : List (ℕ × X)) → entry.0 ≡ key → item_of k (map (rekeyed key to) (entry ∷ entries)) ≡ item_of k ((to, entry.1) ∷ map (rekeyed key to) entries)
  first_here k entry entries is = ap (λ (e : ℕ × X). item_of k (e ∷ map (rekeyed key to) entries)) (rekeyed_here entry is)

  first_other : (k : ℕ) (entry : ℕ × X) (entries : List (ℕ × X)) → entry.0 ≢ key → item_of k (map (rekeyed key to) (entry ∷ entries)) ≡ item_of k (entry ∷ map (rekeyed key to) entries)
  first_other k entry entries apart = ap (λ (e : ℕ × X). item_of k (e ∷ map (rekeyed key to) entries)) (rekeyed_other entry apart)

  -- a third key has the item that it had
  pub item_of-rekeyed_other : (entries : List (ℕ × X)) (k : ℕ) → k ≢ key → k ≢ to → item_of k (map (rekeyed key to) entries) ≡ item_of k entries
  item_of-rekeyed_other [] k from onto = refl
  item_of-rekeyed_other (entry ∷ entries) k from onto = elim (cases_eq entry.0 key) [
    | inl is ↦
        first_here k entry entries is ∙ found_later k (to, entry.1) (map (rekeyed key to) entries) (λ e. onto (sym e))
        ∙ item_of-rekeyed_other entries k from onto ∙ sym (found_later k entry entries (λ e. from (sym e ∙ is)))
    | inr apart ↦
        first_other k entry entries apart ∙ ap (λ (o : Option X). if (entry.0 == k) then Some entry.1 else o) (item_of-rekeyed_other entries k from onto)
  ]

  -- the new key has the item that the other had
  pub item_of-rekeyed_here : (entries : List (ℕ × X)) → IsAbsent to entries → item_of to (map (rekeyed key to) entries) ≡ item_of key entries
  item_of-rekeyed_here [] h = refl
  item_of-rekeyed_here (entry ∷ entries) h = elim (cases_eq entry.0 key) [
    | inl is ↦ first_here to entry entries is ∙ found_first to (to, entry.1) (map (rekeyed key to) entries) refl ∙ sym (found_first key entry entries is)
    | inr apart ↦
        first_other to entry entries apart ∙ found_later to entry (map (rekeyed key to) entries) (h.none 0 entry refl)
        ∙ item_of-rekeyed_here entries (record { none = λ i e there. h.none (suc i) e there }) ∙ sym (found_later key entry entries apart)
  ]

  -- which has none
  pub item_of-rekeyed_gone : (entries : List (ℕ × X)) → key ≢ to → item_of key (map (rekeyed key to) entries) ≡ None
  item_of-rekeyed_gone [] h = refl
  item_of-rekeyed_gone (entry ∷ entries) h = elim (cases_eq entry.0 key) [
    | inl is ↦ first_here key entry entries is ∙ found_later key (to, entry.1) (map (rekeyed key to) entries) (λ e. h (sym e)) ∙ item_of-rekeyed_gone entries h
    | inr apart ↦ first_other key entry entries apart ∙ found_later key entry (map (rekeyed key to) entries) apart ∙ item_of-rekeyed_gone entries h
  ]

  -- entries none of which has the key stay
  pub rekeyed_none : (entries : List (ℕ × X)) → IsAbsent key entries → map (rekeyed key to) entries ≡ entries
  rekeyed_none [] h = refl
  rekeyed_none (entry ∷ entries) h = λ i. rekeyed_other entry (h.none 0 entry refl) i ∷ rekeyed_none entries (record { none = λ j e there. h.none (suc j) e there }) i

  -- of distinct entries, the one that has the key gets the other
  pub rekeyed_one : (entries : List (ℕ × X)) (at : ℕ) (old : ℕ × X) → AreDistinct entries → slice_get entries at ≡ Some old → old.0 ≡ key → map (rekeyed key to) entries ≡ set entries at (to, old.1)
  rekeyed_one [] at old once was is = absurd (omega (arith, slice_get_within [] at old was))
  rekeyed_one (entry ∷ entries) zero old once was is =
      let same : entry ≡ old = cc in
      let has : entry.0 ≡ key = ap (λ (e : ℕ × X). e.0) same ∙ is in
      let rest : map (rekeyed key to) entries ≡ entries = rekeyed_none entries (record {
        none = λ j e there k. let apart : 0 ≡ suc j = once.once 0 (suc j) entry e refl there (has ∙ sym k) in
            absurd (omega (arith, apart));
      }) in
      let head : rekeyed key to entry ≡ (to, old.1) = rekeyed_here entry has ∙ ap (λ (e : ℕ × X). (to, e.1)) same in
      λ i. head i ∷ rest i
  rekeyed_one (entry ∷ entries) (suc at) old once was is =
      let other : entry.0 ≢ key = λ k. let apart : 0 ≡ suc at = once.once 0 (suc at) entry old refl was (k ∙ sym is) in absurd (omega (arith, apart)) in
      let tail : AreDistinct entries = record { once = λ i j a b a_at b_at k. let both : suc i ≡ suc j = once.once (suc i) (suc j) a b a_at b_at k in omega (arith, both) } in
      let rest = rekeyed_one entries at old tail was is in
      λ i. rekeyed_other entry other i ∷ rest i
