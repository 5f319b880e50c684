-- A predicate on keys and items, asked about entries by a closure that holds it.
use Rattle.dary_heap.proofs.Common.{◌≡◌, ℕ, zero, suc, Bool, true, false, List, [], ◌∷◌, Some, ap, arith, length, refl, slice_get, slice_get_within, subst, IsPermutation}
use Rattle.dary_heap.proofs.Common.{Mut, Bor, CalledAt, ReturnsInTurn, TakesInTurn, items_where_true, sym, inr, ◌⊎◌}
use Rattle.dary_heap.proofs.Placing.{key_gone, keys_less, keys_more, keys_moved, right_keys}
use Rattle.dary_heap.specs.Places.{HaveKeys}
use Rattle.std.specs.Fn.{Called, Takes}
use denote.Param.Always.{always_mut, mut_next}
use Rattle.indexed_heap.specs.Filtering.{CalledAtEntry, TakesEntriesInTurn, TakesEntry}
use Rattle.indexed_heap.specs.Places.{AreRight, key_of}

module _ {F T : Type 0} (asks : Mut F (ℕ × (Bor T × Unit {0})) Bool) where
  -- a predicate that may be called on anything, and again after each call, may be asked about one entry after another
  pub entries_in_turn : (f : F) (entries : List (ℕ × T)) → always_mut asks f → TakesEntriesInTurn asks f entries
  entries_in_turn f [] always = tt
  entries_in_turn f (entry ∷ entries) always = (
    λ shown is. (always.at ((entry.0, (shown, tt)) ∷ [])).0,
    λ answer after call. entries_in_turn after entries (mut_next asks f (entry.0, (call.shown, tt)) answer after after call.called refl always),
  )

  module _ {P : Type 0} (calls : Mut P (Bor (ℕ × T) × Unit {0}) Bool) (inner : P → F)
      (called : (p : P) (shown : Bor (ℕ × T)) (answer : Bool) (q : P) → Called calls p (shown, tt) answer q → CalledAtEntry asks (inner p) shown.now answer (inner q)) where
    -- where the predicate may be asked about entries in turn, so may the closure
    pub inner_takes : ((p : P) (shown : Bor (ℕ × T)) → TakesEntry asks (inner p) shown.now → Takes calls p (shown, tt)) →
        (p : P) (entries : List (ℕ × T)) → TakesEntriesInTurn asks (inner p) entries → TakesInTurn calls p entries
    inner_takes takes p [] h = tt
    inner_takes takes p (entry ∷ entries) h = (
      λ shown is. takes p shown (subst (λ (e : ℕ × T). TakesEntry asks (inner p) e) (sym is) h.0),
      λ answer after call. inner_takes takes after entries (h.1 answer (inner after) (subst (λ (e : ℕ × T). CalledAtEntry asks (inner p) e answer (inner after)) call.shows
          (called p call.shown answer after call.called))),
    )

    -- what the closure returned the predicate returned
    pub inner_returns : (p : P) (answers : List Bool) (entries : List (ℕ × T)) (q : P) → ReturnsInTurn (CalledAt calls) p answers entries q →
        ReturnsInTurn (CalledAtEntry asks) (inner p) answers entries (inner q)
    inner_returns p [] entries q h = ap inner h
    inner_returns p (answer ∷ answers) [] q h = h
    inner_returns p (answer ∷ answers) (entry ∷ entries) q h =
        (inner h.0, subst (λ (e : ℕ × T). CalledAtEntry asks (inner p) e answer (inner h.0)) h.1.shows (called p h.1.shown answer h.0 h.1.called), inner_returns h.0 answers entries q h.2)

  -- as a `retain` asks for it
  pub inner_may : {P : Type 0} {calls : Mut P (Bor (ℕ × T) × Unit {0}) Bool} {p : P} (entries : List (ℕ × T)) (inner : P → F) →
      ((p : P) (shown : Bor (ℕ × T)) (answer : Bool) (q : P) → Called calls p (shown, tt) answer q → CalledAtEntry asks (inner p) shown.now answer (inner q)) →
      ((p : P) (shown : Bor (ℕ × T)) → TakesEntry asks (inner p) shown.now → Takes calls p (shown, tt)) → TakesEntriesInTurn asks (inner p) entries → always_mut calls p ⊎ TakesInTurn calls p entries
  inner_may {calls = calls} {p = p} entries inner called takes h = inr (inner_takes calls inner called takes p entries h)

module _ {X : Type 0} where
  -- what is picked was there
  was_there : (bs : List Bool) (xs : List X) (i : ℕ) (x : X) → slice_get (items_where_true bs xs) i ≡ Some x → (j : ℕ) × (slice_get xs j ≡ Some x)
  was_there [] xs i x there = absurd (omega (arith, slice_get_within [] i x there))
  was_there (b ∷ bs) [] i x there = absurd (omega (arith, slice_get_within [] i x there))
  was_there (true ∷ bs) (y ∷ xs) zero x there = (0, there)
  was_there (true ∷ bs) (y ∷ xs) (suc i) x there = let from = was_there bs xs i x there in (suc from.0, from.1)
  was_there (false ∷ bs) (y ∷ xs) i x there = let from = was_there bs xs i x there in (suc from.0, from.1)

  no_keys : (key : X → ℕ) (limit : ℕ) → HaveKeys key limit []
  no_keys key limit = record {
    below = λ i x there. absurd (omega (arith, slice_get_within [] i x there));
    distinct = λ i j x y there here same. absurd (omega (arith, slice_get_within [] i x there));
  }

  -- of distinct keys those that are picked are distinct
  picked_keys : (key : X → ℕ) (limit : ℕ) (bs : List Bool) (xs : List X) → HaveKeys key limit xs → HaveKeys key limit (items_where_true bs xs)
  picked_keys key limit [] xs h = no_keys key limit
  picked_keys key limit (b ∷ bs) [] h = no_keys key limit
  picked_keys key limit (true ∷ bs) (x ∷ xs) h =
      keys_more key x (items_where_true bs xs) (picked_keys key limit bs xs (keys_less key x xs h)) (h.below 0 x refl) (λ i y there. let from = was_there bs xs i y there in key_gone key x xs h from.0 y from.1)
  picked_keys key limit (false ∷ bs) (x ∷ xs) h = picked_keys key limit bs xs (keys_less key x xs h)

-- the keys of the entries that are kept are in the table, and distinct
pub kept_keys : {X : Type 0} (old : List (ℕ × X)) (places : List ℕ) (answers : List Bool) (new : List (ℕ × X)) → AreRight old places → IsPermutation (items_where_true answers old) new →
    HaveKeys key_of (length places) new
kept_keys old places answers new right bag = keys_moved key_of (items_where_true answers old) new bag (picked_keys key_of (length places) answers old (right_keys key_of right))
