-- Entries whose keys are the numbers of names, read with the names.
use Rattle.dary_heap.proofs.Common.{◌≡◌, ◌≢◌, ℕ, zero, suc, ◌<◌, ◌≤◌, Bool, true, false, List, [], ◌∷◌, ◌++◌, length, get_or, refl, sym, ap, ◌∙◌, arith, inl, inr, if◌then◌else◌, Option, Some, None}
use Rattle.dary_heap.proofs.Common.{slice_get, slice_get_within, get_or_from_slice_get, cases_eq, cases_lt, ne_eqb, true≢false, Contains, Ordering, IsTotalOrder, IsGreatest, parent}
use Rattle.dary_heap.proofs.Common.{slice_get-get_or, slice_get_read}
use Rattle.dary_heap.proofs.Order.{first_is_greatest, none_ordered, read}
use Rattle.std.proofs.Common.{position}
use Rattle.std.proofs.lemmas.List.Quantifiers.{position-Some}
use Rattle.std.proofs.Common.{◌||◌}
use Rattle.std.proofs.lemmas.Bool.{eq-eqb}
use Rattle.std.proofs.lemmas.Map.Entries.{length-keys_of}
use Rattle.std.proofs.lemmas.Map.Keys.{IsDistinct-from_apart, apart_from_distinct}
use Rattle.std.proofs.lemmas.Option.{slice_get-map}
use Rattle.std.specs.Cmp.{IsEquivalence, on_total}
use Rattle.std.specs.List.{IsDistinct, list_any}
use Rattle.std.specs.Map.{IsKeyTest, keys_of, lookup}
use Rattle.std.specs.Option.{option_map}
use Rattle.std.specs.Prelude.{◌==◌}
use Rattle.indexed_heap.proofs.AsMap.{item_of-none}
use Rattle.indexed_heap.specs.Entries as idx
use Rattle.indexed_heap.specs.Entries.{item_of}
use Rattle.named_heap.specs.Entries.{AreSound, by_item}
use Rattle.named_heap.specs.Names.{AreKeyed, AreNamed, entry_of, named}

-- what stands at a place is in the list
pub contains_at : {X : Type 0} (xs : List X) (i : ℕ) (x : X) → slice_get xs i ≡ Some x → Contains xs x
contains_at xs i x there = (i, slice_get_within xs i x there, get_or_from_slice_get xs i x x there)

or_left : (a b : Bool) → (a || b) ≡ false → a ≡ false
or_left true b h = h
or_left false b h = refl

or_right : (a b : Bool) → (a || b) ≡ false → b ≡ false
or_right true b h = absurd (true≢false h)
or_right false b h = h

-- a test that passes none
pub none_passes : {X : Type 0} (test : X → Bool) (xs : List X) (i : ℕ) (x : X) → list_any test xs ≡ false → slice_get xs i ≡ Some x → test x ≡ false
none_passes test [] i x h there = absurd (omega (arith, slice_get_within [] i x there))
none_passes test (y ∷ xs) zero x h there = let is : y ≡ x = cc in ap test (sym is) ∙ or_left (test y) (list_any test xs) h
none_passes test (y ∷ xs) (suc i) x h there = none_passes test xs i x (or_right (test y) (list_any test xs) h) there

module _ {K T : Type 0} (names : List K) where
  pub keyed_later : (e : ℕ × T) (entries : List (ℕ × T)) → AreKeyed names (e ∷ entries) → AreKeyed names entries
  keyed_later e entries h p x there = h (suc p) x there

  -- the first entry with its name
  pub named_first : (e : ℕ × T) (entries : List (ℕ × T)) (name : K) → slice_get names e.0 ≡ Some name → named names (e ∷ entries) ≡ (name, e.1) ∷ named names entries
  named_first e entries name is = ap (λ (o : Option K). entry_of o e.1 ++ named names entries) is

  pub length-named : (entries : List (ℕ × T)) → AreKeyed names entries → length (named names entries) ≡ length entries
  length-named [] h = refl
  length-named (e ∷ entries) h =
      let name = read names e.0 (h 0 e refl) in
      ap (λ (l : List (K × T)). length l) (named_first e entries name.0 name.1) ∙ ap suc (length-named entries (keyed_later e entries h))

  -- an entry stands with its name where it stands with the number
  pub named_there : (entries : List (ℕ × T)) → AreKeyed names entries → (p : ℕ) (e : ℕ × T) (name : K) → slice_get entries p ≡ Some e → slice_get names e.0 ≡ Some name →
      slice_get (named names entries) p ≡ Some (name, e.1)
  named_there [] h p e name there is = absurd (omega (arith, slice_get_within [] p e there))
  named_there (x ∷ entries) h zero e name there is =
      let same : x ≡ e = cc in
      let first : slice_get names x.0 ≡ Some name = ap (λ (y : ℕ × T). slice_get names y.0) same ∙ is in
      ap (λ (l : List (K × T)). slice_get l 0) (named_first x entries name first) ∙ ap (λ (y : ℕ × T). Some (name, y.1)) same
  named_there (x ∷ entries) h (suc p) e name there is =
      let first = read names x.0 (h 0 x refl) in
      ap (λ (l : List (K × T)). slice_get l (suc p)) (named_first x entries first.0 first.1) ∙ named_there entries (keyed_later x entries h) p e name there is

  -- and the other way
  pub named_from : (entries : List (ℕ × T)) → AreKeyed names entries → (p : ℕ) (x : K × T) → slice_get (named names entries) p ≡ Some x →
      (e : ℕ × T) × (slice_get entries p ≡ Some e) × (slice_get names e.0 ≡ Some x.0) × (e.1 ≡ x.1)
  named_from entries h p x there =
      let inside : p < length entries = omega (arith, slice_get_within (named names entries) p x there, length-named entries h) in
      let e = read entries p inside in
      let name = read names e.0.0 (h p e.0 e.1) in
      let is = named_there entries h p e.0 name.0 e.1 name.1 in
      let same : (name.0, e.0.1) ≡ x = cc in
      (e.0, e.1, name.1 ∙ ap (λ (y : K × T). Some y.0) same, ap (λ (y : K × T). y.1) same)

  -- a test that one name alone passes finds the item of its number
  pub lookup-named : (test : K → Bool) (i : ℕ) → ((j : ℕ) (name : K) → slice_get names j ≡ Some name → test name ≡ (j == i)) → (entries : List (ℕ × T)) → AreKeyed names entries →
      lookup test (named names entries) ≡ item_of i entries
  lookup-named test i alone [] h = refl
  lookup-named test i alone (e ∷ entries) h =
      let name = read names e.0 (h 0 e refl) in
      ap (lookup test) (named_first e entries name.0 name.1) ∙ ap (λ (b : Bool). if b then Some e.1 else lookup test (named names entries)) (alone e.0 name.0 name.1)
      ∙ ap (λ (o : Option T). if (e.0 == i) then Some e.1 else o) (lookup-named test i alone entries (keyed_later e entries h))

  -- and one that none passes finds none
  pub lookup-none : (test : K → Bool) → ((j : ℕ) (name : K) → slice_get names j ≡ Some name → test name ≡ false) → (entries : List (ℕ × T)) → AreKeyed names entries →
      lookup test (named names entries) ≡ None
  lookup-none test none [] h = refl
  lookup-none test none (e ∷ entries) h =
      let name = read names e.0 (h 0 e refl) in
      ap (lookup test) (named_first e entries name.0 name.1) ∙ ap (λ (b : Bool). if b then Some e.1 else lookup test (named names entries)) (none e.0 name.0 name.1)
      ∙ lookup-none test none entries (keyed_later e entries h)

  -- where no number past the names has an item, each key is that of a name
  pub keyed_from : (entries : List (ℕ × T)) → ((i : ℕ) → length names ≤ i → item_of i entries ≡ None) → AreKeyed names entries
  keyed_from entries bare p e there = elim (cases_lt e.0 (length names)) [
    | inl inside ↦ inside
    | inr past ↦ absurd ((item_of-none e.0 entries (bare e.0 past)).none p e there refl)
  ]

module _ {K : Type 0} {eq : K → K → Bool} (laws : IsEquivalence eq) (names : List K) (unique : IsDistinct eq names) where
  -- names with other numbers aren't equal
  pub apart_at : (i j : ℕ) (a b : K) → i ≢ j → slice_get names i ≡ Some a → slice_get names j ≡ Some b → eq a b ≡ false
  apart_at i j a b apart a_at b_at =
      let left = get_or_from_slice_get names i a a a_at in
      let right = get_or_from_slice_get names j b a b_at in
      elim (cases_lt i j) [
        | inl less ↦
            let both : eq (get_or names i a) (get_or names j a) ≡ eq a b = λ k. eq (left k) (right k) in
            sym both ∙ apart_from_distinct eq names i j a unique less (slice_get_within names j b b_at)
        | inr past ↦
            let both : eq (get_or names j a) (get_or names i a) ≡ eq b a = λ k. eq (right k) (left k) in
            laws.symm a b ∙ sym both ∙ apart_from_distinct eq names j i a unique (omega (arith, past, apart)) (slice_get_within names i a a_at)
      ]

  -- a test of names that one passes is passed by its number alone
  pub alone : (test : K → Bool) → IsKeyTest eq test → (i : ℕ) (name : K) → slice_get names i ≡ Some name → test name ≡ true → (j : ℕ) (other : K) → slice_get names j ≡ Some other →
      test other ≡ (j == i)
  alone test keyed i name name_at passes j other other_at = elim (cases_eq j i) [
    | inl same ↦
        let there : slice_get names i ≡ Some other = sym (ap (slice_get names) same) ∙ other_at in
        let is : name ≡ other = cc in
        ap test (sym is) ∙ passes ∙ sym (eq-eqb j i same)
    | inr apart ↦ keyed name other passes ∙ apart_at i j name other (λ e. apart (sym e)) name_at other_at ∙ sym (ne_eqb j i apart)
  ]

module _ {K T : Type 0} {eq : K → K → Bool} {cmp : T → T → Ordering} (laws : IsEquivalence eq) (D : ℕ) (names : List K) (entries : List (ℕ × T)) where
  -- each name once, and heap order by the items
  pub sound_named : IsDistinct eq names → idx.AreSound cmp D entries → AreKeyed names entries → AreSound eq cmp D (named names entries)
  sound_named unique sound keyed =
      let xs : List (K × T) = named names entries in
      let apart : (i j : ℕ) (d : K) → i < j → j < length (keys_of xs) → eq (get_or (keys_of xs) i d) (get_or (keys_of xs) j d) ≡ false = λ i j d less inside.
      let long : length (keys_of xs) ≡ length xs = length-keys_of xs in
      let x = read xs i (omega (arith, less, inside, long)) in
      let y = read xs j (omega (arith, inside, long)) in
      let a = named_from names entries keyed i x.0 x.1 in
      let b = named_from names entries keyed j y.0 y.1 in
      let other : a.0.0 ≢ b.0.0 = λ same. (let both : i ≡ j = sound.distinct.once i j a.0 b.0 a.1 b.1 same in absurd (omega (arith, both, less))) in
      let left : get_or (keys_of xs) i d ≡ x.0.0 = get_or_from_slice_get (keys_of xs) i x.0.0 d (slice_get-map (λ (e : K × T). e.0) xs i ∙ ap (option_map (λ (e : K × T). e.0)) x.1) in
      let right : get_or (keys_of xs) j d ≡ y.0.0 = get_or_from_slice_get (keys_of xs) j y.0.0 d (slice_get-map (λ (e : K × T). e.0) xs j ∙ ap (option_map (λ (e : K × T). e.0)) y.1) in
      let both : eq (get_or (keys_of xs) i d) (get_or (keys_of xs) j d) ≡ eq x.0.0 y.0.0 = λ k. eq (left k) (right k) in
      both ∙ apart_at laws names unique a.0.0 b.0.0 x.0.0 y.0.0 other a.2 b.2
      in record {
        distinct = IsDistinct-from_apart eq (keys_of xs) apart;
        ordered = record {
          below_parent = λ i above. record {
            not_greater = λ x y x_at y_at e.
                let a = named_from names entries keyed i x x_at in
                let b = named_from names entries keyed (parent D i) y y_at in
                (sound.ordered.below_parent i above).not_greater a.0 b.0 a.1 b.1 (ap (λ (v : T). cmp v b.0.1) a.3 ∙ ap (cmp x.1) b.3 ∙ e);
          };
        };
      }

-- the first entry has a greatest item
pub greatest_named : {K T : Type 0} {eq : K → K → Bool} {cmp : T → T → Ordering} → IsTotalOrder cmp → (D : ℕ) (xs : List (K × T)) (x : K × T) → AreSound eq cmp D xs → slice_get xs 0 ≡ Some x →
    IsGreatest (by_item cmp) xs x
greatest_named {K} {T} total D xs x sound first = first_is_greatest (on_total (λ (e : K × T). e.1) total) D xs sound.ordered x first

module _ {K T : Type 0} {eq : K → K → Bool} {cmp : T → T → Ordering} {D : ℕ} (names : List K) (entries : List (ℕ × T)) where
  -- no names, and no entries
  pub none_named : IsDistinct eq names → names ≡ [] → entries ≡ [] → AreNamed eq cmp D names entries
  none_named unique no_names no_entries =
      let empty : length names ≡ 0 = ap (λ (l : List K). length l) no_names in
      let none : length entries ≡ 0 = ap (λ (l : List (ℕ × T)). length l) no_entries in
      record {
        unique = unique;
        sound = record {
          distinct = record { once = λ i j a b a_at b_at same. absurd (omega (arith, none, slice_get_within entries i a a_at)) };
          ordered = none_ordered entries no_entries;
        };
        held = λ i inside. absurd (omega (arith, inside, empty));
        bare = λ i past. ap (λ (l : List (ℕ × T)). item_of i l) no_entries;
      }

  module _ (h : AreNamed eq cmp D names entries) where
    pub keyed_of : AreKeyed names entries
    keyed_of = keyed_from names entries h.bare

    pub length_of : length (named names entries) ≡ length entries
    length_of = length-named names entries keyed_of

    module _ (laws : IsEquivalence eq) where
      pub sound_of : AreSound eq cmp D (named names entries)
      sound_of = sound_named laws D names entries h.unique h.sound keyed_of

      -- a test that no name passes finds nothing
      pub lookup_missing : (test : K → Bool) → list_any test names ≡ false → lookup test (named names entries) ≡ None
      lookup_missing test none = lookup-none names test (λ j name at. none_passes test names j name none at) entries keyed_of

pub found_at : {K : Type 0} (test : K → Bool) (names : List K) (i : ℕ) → position test names ≡ Some i → (name : K) × (slice_get names i ≡ Some name) × (test name ≡ true)
found_at test [] i p = absurd (cc)
found_at test (x ∷ xs) i p =
    let found = position-Some test (x ∷ xs) i x p in
    (get_or (x ∷ xs) i x, slice_get-get_or (x ∷ xs) i x found.0, found.1)

-- the name that a test finds passes it
pub found_passes : {K : Type 0} (test : K → Bool) (names : List K) (i : ℕ) → position test names ≡ Some i → (name : K) → slice_get names i ≡ Some name → test name ≡ true
found_passes {K} test names i p name at =
    let found = found_at test names i p in
    let here : slice_get names i ≡ Some found.0 = found.1 in
    let is : name ≡ found.0 = cc in
    ap test is ∙ found.2

-- and finds the item of its number
pub lookup_found : {K T : Type 0} {eq : K → K → Bool} {cmp : T → T → Ordering} {D : ℕ} (names : List K) (entries : List (ℕ × T)) → AreNamed eq cmp D names entries → IsEquivalence eq →
    (test : K → Bool) → IsKeyTest eq test → (i : ℕ) →
    position test names ≡ Some i → lookup test (named names entries) ≡ item_of i entries
lookup_found names entries h laws test keyed i p =
    let found = found_at test names i p in
    lookup-named names test i (alone laws names h.unique test keyed i found.0 found.1 found.2) entries (keyed_from names entries h.bare)

-- an item that is read at a place stands there
pub read_at : {X : Type 0} (xs ys : List X) (i : ℕ) (x : X) → xs ≡ ys → i < length xs → x ≡ get_or xs i x → slice_get ys i ≡ Some x
read_at {X} xs ys i x same inside is = ap (λ (l : List X). slice_get l i) (sym same) ∙ slice_get_read xs (length xs) i x refl inside is
