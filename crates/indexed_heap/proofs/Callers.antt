-- What callers need besides the contracts.
use Rattle.dary_heap.proofs.Common.{◌≢◌, ℕ, suc, List, ◌∷◌, Some, length, refl, ap, RisesWithin, sink_bound, ◌∙◌, slice_get-get_or, slice_get_within, Contains, IsPermutation}
use Rattle.indexed_heap.specs.Entries.{InsertsWithin, IsAbsent, IsEntry}
use Rattle.indexed_heap.proofs.Bounding.{within_sink}
pub use Rattle.indexed_heap.proofs.AsMap.{none_there, one_item, item_of-absent, item_of-there, item_of-none, item_of-has, item_of-agrees, Gets-here, Gets-others, Gets-given, Loses-given}
pub use Rattle.indexed_heap.proofs.AsMap.{Loses-others, pop_loses}
pub use Rattle.indexed_heap.proofs.Mapping.{Gets-all, Loses-all, showing, item_of-map, IsAbsent-map, Loses-map, Gets-map, AreDistinct-map, IsEntry-map, InsertsWithin-map}
pub use Rattle.indexed_heap.proofs.Removing.{still_absent}
pub use Rattle.indexed_heap.proofs.Along.{IsWayOf-all, IsWayOf-alone, IsWayOf-joined}
pub use Rattle.dary_heap.proofs.shortest_path.Searching.{leads_within}

-- no entry that is there has a key that is absent
pub absent_apart : {X : Type 0} (key : ℕ) (entries : List (ℕ × X)) (entry : ℕ × X) → IsAbsent key entries → Contains entries entry → entry.0 ≢ key
absent_apart key entries entry h in' = h.none in'.0 entry (slice_get-get_or entries in'.0 entry in'.1 ∙ ap Some in'.2)

-- what was absent stays so if an entry is taken out
pub absent_left : {X : Type 0} (key : ℕ) (old new : List (ℕ × X)) (entry : ℕ × X) → IsPermutation old (entry ∷ new) → IsAbsent key old → IsAbsent key new
absent_left key old new entry bag h = record { none = λ i. (still_absent key old (entry ∷ new) bag h).none (suc i) }

-- at any place an insert of a key with an item takes no more comparisons than sifting down the first of as many items
pub insert_within_sink : {T : Type 0} (D key at before after : ℕ) (old : List (ℕ × T)) → IsEntry old at key → InsertsWithin D key old before after →
    RisesWithin before after (sink_bound D (length old))
insert_within_sink D key at before after old h counted = within_sink D at before after (length old) (length old) refl (slice_get_within old at h.entry h.there) (counted.held at h)
