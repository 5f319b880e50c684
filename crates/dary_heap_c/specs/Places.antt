-- An array of places, which has at the value of each entry the place at which the entry stands.
use Rattle.std.specs.Prelude.{◌≡◌, ◌≢◌, ℕ, ◌<◌, Bool, List, length, slice_get, Some}
use Rattle.std.specs.Bool.{OnTrue, OnFalse}
use Rattle.dary_heap.specs.Places as table
use Rattle.dary_heap_c.specs.declared.entry.Entry.{Entry}

-- the key of an entry in such a table is its value
abbrev pub value_of : Entry → ℕ
value_of entry = entry.value

-- no two entries have the same value, and each value is below the limit
abbrev pub HaveKeys : ℕ → List Entry → Type 0
HaveKeys = table.HaveKeys value_of

-- the place of each entry is right
abbrev pub AreRight : List Entry → List ℕ → Type 0
AreRight = table.AreRight value_of

-- the same but for those of the entries on the path from place `low` up to place `high`
abbrev pub AreRightOffPath : (D low high : ℕ) → List Entry → List ℕ → Type 0
AreRightOffPath = table.AreRightOffPath value_of

-- no two items have the same value
pub record AreDistinct (items : List Entry) : Type 0 where
  pub distinct : (i j : ℕ) (a b : Entry) → slice_get items i ≡ Some a → slice_get items j ≡ Some b → a.value ≡ b.value → i ≡ j

-- the item at the place, if there is one, has a value below the limit
pub record IsKeyAt (limit place : ℕ) (items : List Entry) : Type 0 where
  pub below : (item : Entry) → slice_get items place ≡ Some item → item.value < limit

-- there is an item at the place, and its value is below the limit
abbrev pub HasKeyAt : ℕ → ℕ → List Entry → Type 0
HasKeyAt limit place items = (place < length items) × IsKeyAt limit place items

-- no item has the value
pub record IsFree (value : ℕ) (items : List Entry) : Type 0 where
  pub none : (i : ℕ) (item : Entry) → slice_get items i ≡ Some item → item.value ≢ value

-- the places become right if they were right but for that of the item at place, whose value has one, and no two items have the same value. Those of values that no item has stay, whatever the places were
pub record Rights (place : ℕ) (old new : List Entry) (before after : List ℕ) : Type 0 where
  pub right : AreDistinct old → IsKeyAt (length before) place old → table.AreRightButAt value_of place old before → AreRight new after
  pub others : (value : ℕ) → IsFree value old → slice_get after value ≡ slice_get before value

-- the same for a call that does its work or changes nothing
pub record KeepsPlaces (place : ℕ) (done : Bool) (old new : List Entry) (before after : List ℕ) : Type 0 where
  pub rights : OnTrue done (Rights place old new before after)
  pub untouched : OnFalse done (after ≡ before)
