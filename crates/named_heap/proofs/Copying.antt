-- Copies of names and entries.
use Rattle.dary_heap.proofs.Common.{◌≡◌, ℕ, Bool, List, [], ◌∷◌, refl, length, ap, ◌∙◌, Some, slice_get, slice_get-get_or, Contains, Ordering}
use Rattle.dary_heap.proofs.Order.{read}
use Rattle.dary_heap.proofs.heap.Cloning.{clones_same}
use Rattle.std.specs.List.{AllZip}
use Rattle.named_heap.specs.Names.{AreNamed, named}
use Rattle.named_heap.proofs.Counting.{entry_of_name}
use Rattle.named_heap.proofs.Naming.{contains_at, keyed_of, named_there}

module _ {K T : Type 0} {eq : K → K → Bool} {cmp : T → T → Ordering} {D : ℕ} (names : List K) (entries : List (ℕ × T)) (h : AreNamed eq cmp D names entries) where
  -- a number's item is that of a name
  pub item_has : (key : ℕ) (item : T) → Contains entries (key, item) → (name : K) × Contains (named names entries) (name, item)
  item_has key item in' =
      let keyed = keyed_of names entries h in
      let there = slice_get-get_or entries in'.0 (key, item) in'.1 ∙ ap Some in'.2 in
      let name = read names key (keyed in'.0 (key, item) there) in
      (name.0, contains_at (named names entries) in'.0 (name.0, item) (named_there names entries keyed in'.0 (key, item) name.0 there name.1))

  -- a name has an item
  pub name_has : (name : K) → Contains names name → (item : T) × Contains (named names entries) (name, item)
  name_has name in' =
      let e = entry_of_name names entries h in'.0 in'.1 in
      let at = slice_get-get_or names in'.0 name in'.1 ∙ ap Some in'.2 in
      let found = e.1.there in
      (e.1.entry.1, contains_at (named names entries) e.0 (name, e.1.entry.1) (named_there names entries (keyed_of names entries h) e.0 e.1.entry name found (ap (slice_get names) e.1.has ∙ at)))

  -- names whose clones have the same values
  pub names_same : (is_clone : K → K → Type 0) → ((x y : K) (item : T) → Contains (named names entries) (x, item) → is_clone x y → y ≡ x) → (copies : List K) → AllZip is_clone names copies →
      copies ≡ names
  names_same is_clone gives copies made = clones_same is_clone names copies (λ x y in' one. let e = name_has x in' in gives x y e.0 e.1 one) made

-- a list without a length is empty
pub none_left : {X : Type 0} (xs : List X) → length xs ≡ 0 → xs ≡ []
none_left [] h = refl
none_left (x ∷ xs) h = absurd (cc)
