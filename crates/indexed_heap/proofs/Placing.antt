-- What keeps places right.
use Rattle.dary_heap.proofs.Common.{◌≡◌, ◌≢◌, ℕ, ◌<◌, ◌≤◌, List, [], length, nil_from_length, get_or, sym, ap, ◌∙◌, arith, inl, inr, Some, slice_get, cases_lt, slice_get_within}
use Rattle.dary_heap.proofs.Order.{read, reads}
use Rattle.dary_heap.proofs.Placing.{right_keys}
use Rattle.indexed_heap.specs.Entries.{AreDistinct, IsAbsent, IsEntry}
use Rattle.indexed_heap.specs.Places.{AreRight, key_of}

module _ {X : Type 0} {entries : List (ℕ × X)} {places : List ℕ} (h : AreRight entries places) where
  -- the table has a place for the key of each entry
  pub has_place : (i : ℕ) (entry : ℕ × X) → slice_get entries i ≡ Some entry → entry.0 < length places
  has_place = (right_keys key_of h).below

  -- no two entries have the same key
  pub distinct : AreDistinct entries
  distinct = record { once = (right_keys key_of h).distinct }

  -- and of a key that an entry has
  pub has_key : (i key : ℕ) → IsEntry entries i key → key < length places
  has_key i key a = let inside = has_place i a.entry a.there in omega (arith, inside, a.has)

  -- a table without places is one of no entries
  pub no_entries : length places ≡ 0 → entries ≡ []
  no_entries none = nil_from_length entries (elim (cases_lt 0 (length entries)) [
    | inl some ↦ (let x = read entries 0 some in let inside = has_place 0 x.0 x.1 in absurd (omega (arith, none)))
    | inr past ↦ omega arith
  ])

-- no entry has a key whose place shows none
module _ {X : Type 0} {entries : List (ℕ × X)} {places : List ℕ} (h : AreRight entries places) (key : ℕ) where
  pub no_place : length places ≤ key → IsAbsent key entries
  no_place past = record { none = λ i entry there same. let inside : entry.0 < length places = has_place h i entry there in absurd (omega arith) }

  -- an entry with the key would stand at the place
  stands : (at i : ℕ) (entry : ℕ × X) → slice_get places key ≡ Some at → slice_get entries i ≡ Some entry → entry.0 ≡ key → i ≡ at
  stands at i entry shown there same =
      let is = h.right i entry there in
      let both : slice_get places entry.0 ≡ slice_get places key = ap (slice_get places) same in
      cc

  pub no_entry_there : (at : ℕ) → slice_get places key ≡ Some at → length entries ≤ at → IsAbsent key entries
  no_entry_there at shown past = record {
    none = λ i entry there same.
        let here : i ≡ at = stands at i entry shown there same in
        let inside : i < length entries = slice_get_within entries i entry there in
        absurd (omega arith);
  }

  pub other_key : (at : ℕ) (other : ℕ × X) → slice_get places key ≡ Some at → slice_get entries at ≡ Some other → other.0 ≢ key → IsAbsent key entries
  other_key at other shown held apart = record {
    none = λ i entry there same.
        let here : i ≡ at = stands at i entry shown there same in
        let both : slice_get entries i ≡ slice_get entries at = ap (slice_get entries) here in
        let is : entry ≡ other = (cc) in
        apart (ap (λ (s : ℕ × X). s.0) (sym is) ∙ same);
  }

-- a table that is longer shows the same
pub longer : {X : Type 0} {entries : List (ℕ × X)} {places : List ℕ} → AreRight entries places → (more : List ℕ) → length places ≤ length more →
    ((k d : ℕ) → k < length places → get_or more k d ≡ get_or places k d) → AreRight entries more
longer {entries = entries} {places = places} h more long same = record {
  right = λ i entry there.
      let inside : entry.0 < length places = has_place h i entry there in
      reads places more entry.0 entry.0 (omega arith) inside (λ d. same entry.0 d inside) ∙ h.right i entry there;
}
