-- What stays true of entries: whatever holds of each, and what a call does if their items are shown as something else, as by a caller's own view.
use Rattle.dary_heap.proofs.Common.{◌≡◌, ℕ, List, [], ◌∷◌, All, Option, Some, None, if◌then◌else◌, refl, sym, ap, ◌∙◌, slice_get, map, length-map}
use Rattle.dary_heap.proofs.Callers.{Contains-map}
use Rattle.std.proofs.Common.{Bool, true, false}
use Rattle.std.proofs.lemmas.List.Elements.{All-cons, All-tail}
use Rattle.std.proofs.lemmas.List.Sorted.{All-permutation, IsPermutation-map}
use Rattle.std.proofs.lemmas.Option.{slice_get-map}
use Rattle.std.specs.Option.{option_map}
use Rattle.indexed_heap.specs.Entries.{AreDistinct, Gets, InsertsWithin, IsAbsent, IsEntry, Loses, item_of}
use Rattle.indexed_heap.proofs.AsMap.{item_of-absent, item_of-none}

module _ {X : Type 0} (P : ℕ × X → Type 0) (key : ℕ) where
  -- what holds of each entry holds of those that are left
  pub Loses-all : (old new : List (ℕ × X)) (given : Option X) → Loses key old given new → All P old → All P new
  Loses-all old new None h all = All-permutation P old new h.bag all
  Loses-all old new (Some had) h all = All-tail P (key, had) new (All-permutation P old ((key, had) ∷ new) h.bag all)

  -- and if it holds of the new entry too, of all that are there then
  pub Gets-all : (item : X) (old new : List (ℕ × X)) (given : Option X) → Gets key item old given new → P (key, item) → All P old → All P new
  Gets-all item old new None h here all = All-permutation P ((key, item) ∷ old) new h.bag (All-cons P (key, item) old here all)
  Gets-all item old new (Some had) h here all = All-tail P (key, had) new (All-permutation P ((key, item) ∷ old) ((key, had) ∷ new) h.bag (All-cons P (key, item) old here all))

module _ {X Y : Type 0} (f : X → Y) where
  -- an entry, with its item shown so
  abbrev pub showing : ℕ × X → ℕ × Y
  showing entry = (entry.0, f entry.1)

  either : (b : Bool) (x : X) (rest : Option X) (shown : Option Y) → shown ≡ option_map f rest → (if b then Some (f x) else shown) ≡ option_map f (if b then Some x else rest)
  either true x rest shown h = refl
  either false x rest shown h = h

  pub item_of-map : (key : ℕ) (entries : List (ℕ × X)) → item_of key (map showing entries) ≡ option_map f (item_of key entries)
  item_of-map key [] = refl
  item_of-map key (entry ∷ entries) = either _ entry.1 (item_of key entries) _ (item_of-map key entries)

  pub IsAbsent-map : (key : ℕ) (entries : List (ℕ × X)) → IsAbsent key entries → IsAbsent key (map showing entries)
  IsAbsent-map key entries h = item_of-none key (map showing entries) (item_of-map key entries ∙ ap (option_map f) (item_of-absent key entries h))

  pub Loses-map : (key : ℕ) (old new : List (ℕ × X)) (given : Option X) → Loses key old given new → Loses key (map showing old) (option_map f given) (map showing new)
  Loses-map key old new None h = record { bag = IsPermutation-map showing old new h.bag; absent = IsAbsent-map key old h.absent }
  Loses-map key old new (Some had) h = record { bag = IsPermutation-map showing old ((key, had) ∷ new) h.bag; absent = tt }

  pub Gets-map : (key : ℕ) (item : X) (old new : List (ℕ × X)) (given : Option X) → Gets key item old given new → Gets key (f item) (map showing old) (option_map f given) (map showing new)
  Gets-map key item old new None h = record {
    bag = IsPermutation-map showing ((key, item) ∷ old) new h.bag;
    absent = IsAbsent-map key old h.absent;
    has = Contains-map showing new (key, item) h.has;
  }
  Gets-map key item old new (Some had) h = record {
    bag = IsPermutation-map showing ((key, item) ∷ old) ((key, had) ∷ new) h.bag;
    absent = tt;
    has = Contains-map showing new (key, item) h.has;
  }

  shown_from : (o : Option (ℕ × X)) (b : ℕ × Y) → option_map showing o ≡ Some b → (x : ℕ × X) × (o ≡ Some x) × (x.0 ≡ b.0)
  shown_from None b h = absurd (cc)
  shown_from (Some x) b h = (x, refl, let same : showing x ≡ b = cc in ap (λ (e : ℕ × Y). e.0) same)

  pub AreDistinct-map : (entries : List (ℕ × X)) → AreDistinct entries → AreDistinct (map showing entries)
  AreDistinct-map entries h = record {
    once = λ i j a b at_i at_j same.
        let x = shown_from (slice_get entries i) a (sym (slice_get-map showing entries i) ∙ at_i) in
        let y = shown_from (slice_get entries j) b (sym (slice_get-map showing entries j) ∙ at_j) in
        h.once i j x.0 y.0 x.1 y.1 (x.2 ∙ same ∙ sym y.2);
  }

  -- where an entry is shown, one with its key stands
  pub IsEntry-map : (key at : ℕ) (old : List (ℕ × X)) → IsEntry (map showing old) at key → IsEntry old at key
  IsEntry-map key at old shown =
      let x = shown_from (slice_get old at) shown.entry (sym (slice_get-map showing old at) ∙ shown.there) in
      record { entry = x.0; there = x.1; has = x.2 ∙ shown.has }

  pub InsertsWithin-map : (D key before after : ℕ) (old : List (ℕ × X)) → InsertsWithin D key old before after → InsertsWithin D key (map showing old) before after
  InsertsWithin-map D key before after old h = record {
    new = λ absent. rw (length-map old showing) (h.new record { none = λ i entry there. absent.none i (showing entry) (slice_get-map showing old i ∙ ap (option_map showing) there) });
    held = λ at shown. rw (length-map old showing) (h.held at (IsEntry-map key at old shown));
  }
