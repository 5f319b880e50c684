-- A table of places, which a caller may keep beside items: at the key of each item it has the place at which the item stands. The function `key` gives the key of an item. D is the const parameter.
use Rattle.std.specs.Prelude.{◌≡◌, ◌≢◌, ℕ, ◌<◌, List, slice_get, Some}
use Rattle.dary_heap.specs.Path.{IsOnPath}

module _ {T : Type 0} (key : T → ℕ) where
  -- no two items have the same key, and each key is below the limit
  pub record HaveKeys (limit : ℕ) (items : List T) : Type 0 where
    pub below : (i : ℕ) (item : T) → slice_get items i ≡ Some item → key item < limit
    pub distinct : (i j : ℕ) (a b : T) → slice_get items i ≡ Some a → slice_get items j ≡ Some b → key a ≡ key b → i ≡ j

  -- at the key of each item stands the place of the item. So no two items have the same key
  pub record AreRight (items : List T) (places : List ℕ) : Type 0 where
    pub right : (i : ℕ) (item : T) → slice_get items i ≡ Some item → slice_get places (key item) ≡ Some i

  -- the same but for the item at `place`, whose place may be any
  pub record AreRightButAt (place : ℕ) (items : List T) (places : List ℕ) : Type 0 where
    pub elsewhere : (i : ℕ) (item : T) → i ≢ place → slice_get items i ≡ Some item → slice_get places (key item) ≡ Some i

  -- the same but for those of the items on the path from place `low` up to place `high`
  pub record AreRightOffPath (D low high : ℕ) (items : List T) (places : List ℕ) : Type 0 where
    pub elsewhere : (i : ℕ) (item : T) → (IsOnPath D low high i → ⊥) → slice_get items i ≡ Some item → slice_get places (key item) ≡ Some i
