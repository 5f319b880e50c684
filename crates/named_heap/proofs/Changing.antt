-- The item of a name that is there changes.
use Rattle.dary_heap.proofs.Common.{◌≡◌, ℕ, Bool, true, false, List, length, refl, sym, ap, ◌∙◌, inl, Option, Some, None, is_some, slice_get}
use Rattle.dary_heap.proofs.Common.{slice_get_within, Ordering, RisesWithin, fix_bound, true≢false}
use Rattle.std.proofs.Common.{position}
use Rattle.std.specs.Bool.{OnFalse}
use Rattle.std.specs.Cmp.{IsEquivalence}
use Rattle.std.specs.Map.{IsKeyTest, lookup}
use Rattle.indexed_heap.proofs.AsMap.{Gets-here, item_of-absent}
use Rattle.indexed_heap.specs.Entries as idx
use Rattle.indexed_heap.specs.Entries.{IsAbsent, IsEntry, item_of}
use Rattle.named_heap.specs.Entries.{Changes}
use Rattle.named_heap.specs.Names.{AreNamed, Numbers, named}
use Rattle.named_heap.proofs.Callers.{Gets-others}
use Rattle.named_heap.proofs.Naming.{found_at, lookup_found, sound_of}
use Rattle.named_heap.proofs.Numbering.{gets_named, named_bag, named_gets, named_within}

module _ {K T : Type 0} {eq : K → K → Bool} {cmp : T → T → Ordering} {D : ℕ} (laws : IsEquivalence eq) (test : K → Bool) (keyed : IsKeyTest eq test) (names : List K) (old : List (ℕ × T))
    (h : AreNamed eq cmp D names old) (key : ℕ) (found : position test names ≡ Some key) where
  abbrev name : K
  name = (found_at test names key found).0

  passes : test name ≡ true
  passes = (found_at test names key found).2

  abbrev numbers : Numbers eq name key names names
  numbers = record { stored = name; there = (found_at test names key found).1; same = laws.refl name; either = inl refl }

  -- its item
  pub item_there : (item : T) × (item_of key old ≡ Some item)
  item_there = by (item_of key old) refl
    where
      by : (given : Option T) → item_of key old ≡ given → (item : T) × (item_of key old ≡ Some item)
      by (Some item) has = (item, has)
      by None none = absurd (true≢false (sym (h.held key (slice_get_within names key name (found_at test names key found).1)) ∙ ap is_some none))

  absent_there : IsAbsent key old → ⊥
  absent_there none = true≢false (ap is_some (sym item_there.1 ∙ item_of-absent key old none))

  -- what says whether it has an item says that it has
  pub is_found : (result : Bool) → OnFalse result (IsAbsent key old) → result ≡ true
  is_found true none = refl
  is_found false none = absurd (absent_there none)

  pub had : lookup test (named names old) ≡ item_of key old
  had = lookup_found names old h laws test keyed key found

  module _ (item : T) (new : List (ℕ × T)) (sound : idx.AreSound cmp D new) where
    pub change_named : (given : Option T) → idx.Gets key item old given new → AreNamed eq cmp D names new
    change_named given gets = gets_named laws name key names names numbers old h h.unique item new given sound gets

    pub changed : (given : T) → idx.Gets key item old (Some given) new → Changes test given item (named names old) (named names new)
    changed given gets =
        let are = change_named (Some given) gets in
        record {
          stored = name;
          passes = passes;
          bag = named_bag laws name key names names numbers old h item new are.bare (Some given) gets;
          here = lookup_found names new are laws test keyed key found ∙ Gets-here key item old new (Some given) gets sound.distinct;
        }

    pub changed_others : (given : Option T) → idx.Gets key item old given new → given ≡ item_of key old → (other : K) → test other ≡ false →
        lookup (eq other) (named names new) ≡ lookup (eq other) (named names old)
    changed_others given gets is other apart =
        let are = change_named given gets in
        Gets-others laws name item (named names old) given (named names new) (named_gets laws name key names names numbers old h item new are.bare given gets is) (sound_of names new are laws).distinct
        (sound_of names old h laws).distinct other (sym (keyed name other passes) ∙ apart)

  pub changed_within : (before after : ℕ) → ((at : ℕ) → IsEntry old at key → RisesWithin before after (fix_bound D (length old) at)) → (at : ℕ) (entry : K × T) →
      slice_get (named names old) at ≡ Some entry →
      test entry.0 ≡ true → RisesWithin before after (fix_bound D (length (named names old)) at)
  changed_within before after counted at entry there is =
      let within = named_within laws name key names names numbers old h before after (record { new = λ none. absurd (absent_there none); held = counted }) in
      within.held at entry there (sym (keyed name entry.0 passes) ∙ is)
