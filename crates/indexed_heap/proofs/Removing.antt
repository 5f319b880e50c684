-- An entry that is added behind the others, and one that is taken out, whose place the last entry takes.
use Rattle.dary_heap.proofs.Common.{◌≡◌, ◌≢◌, ℕ, ◌+◌, ◌<◌, ◌≤◌, List, [], ◌∷◌, ◌++◌, length, sym, ◌∙◌, arith, Some, slice_get, slice_get_within, get_or_from_slice_get}
use Rattle.dary_heap.proofs.Common.{length-append, IsPermutation, IsPermutation-append_comm, inl}
use Rattle.dary_heap.proofs.Order.{slice_get-append}
use Rattle.dary_heap.proofs.Placing.{each_moved, key_gone, keys_less, keys_more, keys_moved, right_keys}
use Rattle.dary_heap.proofs.sift.Removing.{swap_removes}
use Rattle.dary_heap.specs.Path.{GoesTo, GoesUp}
use Rattle.dary_heap.specs.Places.{AreRightButAt, HaveKeys}
use Rattle.std.proofs.lemmas.List.Sorted.{IsPermutation-swap_remove}
use Rattle.std.specs.List.{swap_remove}
use Rattle.indexed_heap.specs.Entries.{IsAbsent}
use Rattle.indexed_heap.specs.Places.{AreRight, HasMoved, key_of}

-- an entry for a key that has none comes behind the others, and goes up. Its place isn't written yet
pub added_moved : {X : Type 0} (D : ℕ) (entries : List (ℕ × X)) (places : List ℕ) (new : ℕ × X) (stop : ℕ) (more : List (ℕ × X)) → AreRight entries places → IsAbsent new.0 entries →
    new.0 < length places →
    stop < length more → GoesUp D (length entries) stop (entries ++ new ∷ []) more → HasMoved D (length entries) stop more places
added_moved D entries places new stop more h absent room within path = record {
  before = entries ++ new ∷ [];
  keys = keys_moved key_of (new ∷ entries) (entries ++ new ∷ []) (IsPermutation-append_comm (new ∷ []) entries) (keys_more key_of new entries (right_keys key_of h) room absent.none);
  right = record {
    elsewhere = λ i entry apart there.
        let before : i < length entries = omega (arith, apart, slice_get_within (entries ++ new ∷ []) i entry there, length-append entries (new ∷ [])) in
        h.right i entry (sym (slice_get-append entries (new ∷ []) i before) ∙ there);
  };
  inside = omega (arith, length-append entries (new ∷ []));
  within = within;
  path = inl path;
}

module _ {X : Type 0} (xs : List (ℕ × X)) (places : List ℕ) (at : ℕ) (gone : ℕ × X) (was : slice_get xs at ≡ Some gone) where
  abbrev left : List (ℕ × X)
  left = swap_remove xs at gone

  pub left_len : length left + 1 ≡ length xs
  left_len = (swap_removes xs at gone (slice_get_within xs at gone was)).len

  module _ (h : AreRight xs places) where
    left_keys : HaveKeys key_of (length places) left
    left_keys =
        let taken = IsPermutation-swap_remove xs at gone (slice_get_within xs at gone was) (sym (get_or_from_slice_get xs at gone gone was)) in
        keys_less key_of gone left (keys_moved key_of xs (gone ∷ left) taken (right_keys key_of h))

    -- the place of the entry that moved isn't written yet
    left_but_at : AreRightButAt key_of at left places
    left_but_at = record {
      elsewhere = λ i entry apart there.
          let moves = swap_removes xs at gone (slice_get_within xs at gone was) in
          h.right i entry (sym (moves.others i apart (slice_get_within left i entry there)) ∙ there);
    }

    -- or it was the last
    pub left_right : length left ≤ at → AreRight left places
    left_right past = record { right = λ i entry there. left_but_at.elsewhere i entry (λ is. omega (arith, is, past, slice_get_within left i entry there)) there }

    pub left_moved : (D stop : ℕ) (new : List (ℕ × X)) → at < length left → stop < length new → GoesTo D at stop left new → HasMoved D at stop new places
    left_moved D stop new inside within path = record { before = left; keys = left_keys; right = left_but_at; inside = inside; within = within; path = path }

-- of the key of an entry that was taken out no entry is left
pub no_more : {X : Type 0} (old new : List (ℕ × X)) (places : List ℕ) (gone : ℕ × X) → AreRight old places → IsPermutation old (gone ∷ new) → IsAbsent gone.0 new
no_more old new places gone h bag = record { none = key_gone key_of gone new (keys_moved key_of old (gone ∷ new) bag (right_keys key_of h)) }

-- what is absent is so after moves
pub still_absent : {X : Type 0} (key : ℕ) (ys zs : List (ℕ × X)) → IsPermutation ys zs → IsAbsent key ys → IsAbsent key zs
still_absent {X} key ys zs same h = record { none = each_moved (λ (entry : ℕ × X). key_of entry ≢ key) ys zs same h.none }
