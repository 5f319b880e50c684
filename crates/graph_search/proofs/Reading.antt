-- The way back is read from the places of the nodes taken.
use Rattle.dary_heap.proofs.Common.{◌≡◌, ◌≢◌, ℕ, ◌<◌, inl, inr, List, [], ◌∷◌, ◌++◌, length, map, Option, Some, slice_get, slice_get_cases, slice_get_read, get_or, refl, sym, ap, ◌∙◌, subst, arith}
use Rattle.std.proofs.lemmas.Option.{slice_get-map}
use Rattle.std.specs.Option.{option_map}
use Rattle.graph_search.proofs.Searching.{some_same}
use Rattle.graph_search.specs.Searching.{AreReadBack, AreTraced, IsTaken}
use Rattle.graph_search.specs.declared.search.Reached.{Reached}

pub slot_of : {N : Type 0} (names : List N) (slots : List (Option N)) (i : ℕ) (u : N) → slots ≡ map Some names → slice_get names i ≡ Some u → slice_get slots i ≡ Some (Some u)
slot_of {N} names slots i u is at = ap (λ (l : List (Option N)). slice_get l i) is ∙ slice_get-map Some names i ∙ ap (option_map Some) at

module _ {N : Type 0} (names : List N) (reached : List Reached) (taken : List ℕ) where
  pub read_more : (k m : ℕ) (nodes : List N) (u : N) (how : Reached) → AreReadBack names reached taken k nodes m → IsTaken names reached taken m u how → m ≢ 0 →
      AreReadBack names reached taken k (nodes ++ u ∷ []) how.before
  read_more k m [] u how h t other = (how, subst (λ (j : ℕ). IsTaken names reached taken j u how) (sym h) t, subst (λ (j : ℕ). j ≢ 0) (sym h) other, refl)
  read_more k m (v ∷ nodes) u how h t other = (h.0, h.1, h.2, read_more h.0.before m nodes u how h.3 t other)

  -- the number that the code read
  pub number_read : (k i : ℕ) → k < length taken → i ≡ get_or taken k i → slice_get taken k ≡ Some i
  number_read k i within read = slice_get_read taken (length taken) k i refl within read

  module _ (T : AreTraced names reached taken) where
    pub name_of : (k i : ℕ) → slice_get taken k ≡ Some i → (u : N) × (slice_get names i ≡ Some u)
    name_of k i at = elim (slice_get_cases names i).1 [
      | inl p ↦ (p.0, p.2)
      | inr p ↦ absurd (omega (arith, p.0, (T.inside k i at).0))
    ]

    -- what is taken from a slot is the name
    pub taken_of : (k i : ℕ) (u : N) (how : Reached) (slots : List (Option N)) →
        ((i : ℕ) (u : N) → slice_get taken k ≡ Some i → slice_get names i ≡ Some u → slice_get slots i ≡ Some (Some u)) →
        slice_get taken k ≡ Some i → slice_get slots i ≡ Some (Some u) → slice_get reached i ≡ Some how → IsTaken names reached taken k u how
    taken_of k i u how slots full at out costs =
        let v = name_of k i at in
        let both : Some v.0 ≡ Some u = some_same (full i v.0 at v.1) out in
        let same : v.0 ≡ u = (cc both) in
        record { number = i; at = at; there = subst (λ (x : N). slice_get names i ≡ Some x) same v.1; costs = costs }
