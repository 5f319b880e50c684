-- The candidates of an `IterSorted`: the items of which the next one is a greatest, each with its place.
use Rattle.std.specs.Prelude.{◌≡◌, ◌==◌, if◌then◌else◌, ℕ, zero, suc, ◌+◌, ◌-◌, ◌*◌, ◌≤◌, ◌⊎◌, List, [], ◌∷◌, All, length, map, slice_get, Option, Some, None}
use Rattle.std.specs.List.{flat_map, range_with_len}
use denote.Ref.{Bor}
use Rattle.std.specs.declared.cmp.Ordering.{Ordering}
use Rattle.dary_heap.specs.Bounds.{candidates_bound}
use Rattle.dary_heap.specs.HeapOrder.{arity, IsHeapOrdered}

-- these items with the one above them, and none if there is no such one
abbrev pub under : {T : Type 0} → Option T → List T → List T
under None items = []
under (Some item) items = item ∷ items

-- the item at a place and those below it, as far down as `fuel` depths
unfoldable pub tree_within : {T : Type 0} → ℕ → List T → ℕ → ℕ → List T
tree_within D items zero place = []
tree_within D items (suc fuel) place = under (slice_get items place) (flat_map (tree_within D items fuel) (range_with_len (place * arity D + 1) (arity D)))

-- the items at these places and all below them
abbrev pub trees : {T : Type 0} → ℕ → List T → List ℕ → List T
trees D items places = flat_map (tree_within D items (length items)) places

abbrev pub places_of : {T : Type 0} → List (Bor T × ℕ) → List ℕ
places_of {T} candidates = map (λ (c : Bor T × ℕ). c.1) candidates

-- a candidate is the item at its place
abbrev pub StandsAtPlace : {T : Type 0} → List T → Bor T × ℕ → Type 0
StandsAtPlace items candidate = slice_get items candidate.1 ≡ Some candidate.0.now

abbrev pub StandAtPlaces : {T : Type 0} → List T → List (Bor T × ℕ) → Type 0
StandAtPlaces items candidates = All (StandsAtPlace items) candidates

-- candidates are compared by their items alone
abbrev pub by_shown : {T : Type 0} → (T → T → Ordering) → Bor T × ℕ → Bor T × ℕ → Ordering
by_shown cmp a b = cmp a.0.now b.0.now

-- the candidates and the items below them: if any item will be given, those that weren't yet
abbrev pub not_given : {T : Type 0} → ℕ → List T → List (Bor T × ℕ) → List T
not_given D items candidates = trees D items (places_of candidates)

-- the items that weren't given: all, if there is no room for a candidate, since then none will be
abbrev pub rest_of : {T : Type 0} → ℕ → List T → List (Bor T × ℕ) → ℕ → List T
rest_of D items candidates room = if room == 0 then items else not_given D items candidates

-- what an iterator keeps: as many items are left to give as it says, and there is room for all candidates to come
pub record AreCandidates {T : Type 0} (cmp : T → T → Ordering) (D : ℕ) (items : List T) (candidates : List (Bor T × ℕ)) (left room : ℕ) : Type 0 where
  pub ordered : IsHeapOrdered cmp D items
  pub heap : IsHeapOrdered (by_shown cmp) 4 candidates
  pub stand : StandAtPlaces items candidates
  pub enough : left ≤ length (not_given D items candidates)
  pub within : length (not_given D items candidates) ≤ length items
  pub few : length candidates ≤ candidates_bound D (length items - length (not_given D items candidates))
  pub fits : (length items ≤ room) ⊎ (length candidates + (arity D - 1) * left ≤ room)
