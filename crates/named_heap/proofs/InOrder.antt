-- What an entry of `iter_sorted` shows.
use Rattle.dary_heap.proofs.Common.{◌≡◌, ℕ, ◌<◌, ◌∷◌, List, length, ap, ◌∙◌, Some, None, slice_get, slice_get-get_or, Contains, Contains-permutation, Ordering, Bor, IsPermutation-sym}
use Rattle.dary_heap.proofs.Callers.{Contains-later}
use Rattle.dary_heap.proofs.Cancelling.{IsPermutation-flat_map}
use Rattle.dary_heap.specs.IterSorted.{GivesNext, InOrder, StartsInOrder}
use Rattle.indexed_heap.specs.Entries as idx
use Rattle.indexed_heap.specs.Iterating as lent
use Rattle.named_heap.specs.Entries.{by_item}
use Rattle.named_heap.specs.Iterating.{shown}
use Rattle.named_heap.specs.Names.{AreKeyed, entry_of, named}
use Rattle.named_heap.proofs.Freeing.{gone_bag}
use Rattle.named_heap.proofs.Naming.{contains_at, length-named, named_from, named_there}

module _ {K T : Type 0} (names : List K) where
  -- what a clause sees of an iterator, with names in place of their numbers
  abbrev pub seen : InOrder (ℕ × T) → InOrder (K × T)
  seen it = record { given = it.given; rest = named names it.rest; left = it.left; room = it.room; comparisons = it.comparisons }

  -- entries that are some of others are keyed as they are
  pub keyed_part : (old new : List (ℕ × T)) → AreKeyed names old → ((e : ℕ × T) → Contains new e → Contains old e) → AreKeyed names new
  keyed_part old new keyed within p e there =
      let in' = within e (contains_at new p e there) in
      keyed in'.0 e (slice_get-get_or old in'.0 e in'.1 ∙ ap Some in'.2)

  pub starts_named : (D most : ℕ) (entries : List (ℕ × T)) (it : InOrder (ℕ × T)) → AreKeyed names entries → StartsInOrder D most entries it → StartsInOrder D most (named names entries) (seen it)
  starts_named D most entries it keyed starts =
      let long = length-named names entries keyed in
      record {
        none_given = starts.none_given;
        bag = IsPermutation-flat_map (λ (e : ℕ × T). entry_of (slice_get names e.0) e.1) entries it.rest starts.bag;
        left = rw long starts.left;
        room = rw long starts.room;
      }

  pub keyed_start : (D most : ℕ) (entries : List (ℕ × T)) (it : InOrder (ℕ × T)) → AreKeyed names entries → StartsInOrder D most entries it → 0 < it.left → AreKeyed names it.rest
  keyed_start D most entries it keyed starts some = keyed_part entries it.rest keyed (λ e in'. Contains-permutation it.rest entries e (IsPermutation-sym entries it.rest starts.bag) in')

  module _ (cmp : T → T → Ordering) (D : ℕ) (old new : InOrder (ℕ × T)) where
    pub gives_none : GivesNext lent.shown (idx.by_item cmp) D old None new → GivesNext shown (by_item cmp) D (seen old) None (seen new)
    gives_none step = record { variant = step.variant; greatest = tt; bag = tt; given = tt; left = step.left; counted = step.counted; room = step.room; unchanged = ap seen step.unchanged }

    module _ (key : ℕ) (item : Bor T) (step : GivesNext lent.shown (idx.by_item cmp) D old (Some (key, item)) new) (keyed : AreKeyed names old.rest) where
      -- the key is that of a name
      pub keyed_given : key < length names
      keyed_given =
          let in' = step.greatest.occurs in
          keyed in'.0 (key, item.now) (slice_get-get_or old.rest in'.0 (key, item.now) in'.1 ∙ ap Some in'.2)

      pub keyed_rest : AreKeyed names new.rest
      keyed_rest = keyed_part old.rest new.rest keyed (λ e in'.
          Contains-permutation ((key, item.now) ∷ new.rest) old.rest e (IsPermutation-sym old.rest ((key, item.now) ∷ new.rest) step.bag) (Contains-later (key, item.now) new.rest e in'))

      pub gives_some : (name : Bor K) → slice_get names key ≡ Some name.now → GivesNext shown (by_item cmp) D (seen old) (Some (name, item)) (seen new)
      gives_some name at =
          let in' = step.greatest.occurs in
          let there = slice_get-get_or old.rest in'.0 (key, item.now) in'.1 ∙ ap Some in'.2 in
          record {
            variant = step.variant;
            greatest = record {
              occurs = contains_at (named names old.rest) in'.0 (name.now, item.now) (named_there names old.rest keyed in'.0 (key, item.now) name.now there at);
              none_above = λ x x_in.
                  let e = named_from names old.rest keyed x_in.0 x (slice_get-get_or (named names old.rest) x_in.0 x x_in.1 ∙ ap Some x_in.2) in
                  λ above. step.greatest.none_above e.0 (contains_at old.rest x_in.0 e.0 e.1) (ap (λ (v : T). cmp v item.now) e.3 ∙ above);
            };
            bag = gone_bag names old.rest new.rest key item.now step.bag name.now at;
            given = step.given;
            left = step.left;
            counted = step.counted;
            room = step.room;
            unchanged = tt;
          }
