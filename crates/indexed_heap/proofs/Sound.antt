-- What a caller may know of the entries at any time.
use Rattle.dary_heap.proofs.Common.{◌≡◌, ℕ, List, Some, ap, ◌∙◌, slice_get, slice_get_within, get_or_from_slice_get, Contains, IsTotalOrder, Ordering, IsHeapOrdered, IsGreatest}
use Rattle.dary_heap.proofs.Order.{first_is_greatest}
use Rattle.std.specs.Cmp.{on_total}
use Rattle.indexed_heap.specs.Entries.{AreSound, IsEntry, by_item}
use Rattle.indexed_heap.specs.Places.{AreRight}
use Rattle.indexed_heap.proofs.Placing.{distinct}

module _ {T : Type 0} {cmp : T → T → Ordering} (D : ℕ) where
  pub sound : (entries : List (ℕ × T)) (places : List ℕ) → IsHeapOrdered (by_item cmp) D entries → AreRight entries places → AreSound cmp D entries
  sound entries places ordered right = record { distinct = distinct right; ordered = ordered }

  -- the first entry has a greatest item
  pub greatest : IsTotalOrder cmp → (entries : List (ℕ × T)) (entry : ℕ × T) → IsHeapOrdered (by_item cmp) D entries → slice_get entries 0 ≡ Some entry → IsGreatest (by_item cmp) entries entry
  greatest total entries entry ordered first = first_is_greatest (on_total (λ (e : ℕ × T). e.1) total) D entries ordered entry first

-- the entry that is read at a place has the key that the entry there has
pub holds : {T : Type 0} (entries : List (ℕ × T)) (at key : ℕ) (entry : ℕ × T) → IsEntry entries at key → slice_get entries at ≡ Some entry → Contains entries (key, entry.1)
holds entries at key entry h there =
    let told = h.there in
    let same : entry ≡ h.entry = cc in
    let has : entry.0 ≡ key = ap (λ (e : ℕ × _). e.0) same ∙ h.has in
    let whole : slice_get entries at ≡ Some (key, entry.1) = there ∙ ap (λ (k : ℕ). Some (k, entry.1)) has in
    (at, slice_get_within entries at entry there, get_or_from_slice_get entries at (key, entry.1) (key, entry.1) whole)
