-- Names with their numbers, and entries whose keys are these numbers. Only private functions speak of these.
use Rattle.std.specs.Prelude.{◌≡◌, ◌≢◌, ℕ, ◌<◌, ◌≤◌, ◌-◌, ◌⊎◌, ◌∷◌, ◌++◌, Bool, true, false, List, [], Option, Some, None, IsSome, length, min, slice_get}
use Rattle.std.specs.List.{IsDistinct, flat_map, list_any}
use Rattle.std.specs.declared.cmp.Ordering.{Ordering}
use Rattle.indexmap.specs.IndexSet.{IndexSet, spare}
use Rattle.indexed_heap.specs.Entries.{Indexed, IsAbsent, item_of}
use Rattle.indexed_heap.specs.Entries as idx
use Rattle.named_heap.specs.Entries.{Named}

-- the entry of a number, if it is that of a name
abbrev pub entry_of : {K T : Type 0} → Option K → T → List (K × T)
entry_of None item = []
entry_of (Some name) item = (name, item) ∷ []

-- entries with names in place of their numbers
abbrev pub named : {K T : Type 0} → List K → List (ℕ × T) → List (K × T)
named names entries = flat_map (λ e. entry_of (slice_get names e.0) e.1) entries

-- each key is the number of a name
abbrev pub AreKeyed : {K T : Type 0} → List K → List (ℕ × T) → Type 0
AreKeyed {T = T} names entries = (p : ℕ) (e : ℕ × T) → slice_get entries p ≡ Some e → e.0 < length names

-- how many more names there is room for
abbrev pub room_of : {K T S : Type 0} → IndexSet K S → Indexed T → ℕ
room_of names heap = min (spare names) (min (heap.capacity - length heap.entries) (heap.keys - length names.keys))

-- what a clause sees of them
abbrev pub seen : {K T S : Type 0} → IndexSet K S → Indexed T → Named K T
seen names heap = record { entries = named names.keys heap.entries; room = room_of names heap; comparisons = heap.comparisons }

module _ {K T : Type 0} (eq : K → K → Bool) (cmp : T → T → Ordering) (D : ℕ) (names : List K) where
  -- the numbers of the names are the keys of the entries
  pub record AreNamed (entries : List (ℕ × T)) : Type 0 where
    pub unique : IsDistinct eq names
    pub sound : idx.AreSound cmp D entries
    pub held : (i : ℕ) → i < length names → IsSome (item_of i entries)
    pub bare : (i : ℕ) → length names ≤ i → item_of i entries ≡ None

  -- the same, but that one number has no entry
  pub record AreNamedBut (free : ℕ) (entries : List (ℕ × T)) : Type 0 where
    pub unique : IsDistinct eq names
    pub sound : idx.AreSound cmp D entries
    pub inside : free < length names
    pub absent : IsAbsent free entries
    pub held : (i : ℕ) → i ≢ free → i < length names → IsSome (item_of i entries)
    pub bare : (i : ℕ) → length names ≤ i → item_of i entries ≡ None

-- a name has this number, which is new or that of an equal name
pub record Numbers {K : Type 0} (eq : K → K → Bool) (name : K) (key : ℕ) (names more : List K) : Type 0 where
  pub stored : K
  pub there : slice_get more key ≡ Some stored
  pub same : eq name stored ≡ true
  pub either : (more ≡ names) ⊎ ((more ≡ names ++ name ∷ []) × (stored ≡ name) × (key ≡ length names) × (list_any (eq name) names ≡ false))

-- this number is that of one of the names, or the heap has room for one more entry, with this number as its key
abbrev pub HasRoomFor : {K T : Type 0} → ℕ → List K → Indexed T → Type 0
HasRoomFor key names heap = (key < length names) ⊎ ((length heap.entries < heap.capacity) × (key < heap.keys))
