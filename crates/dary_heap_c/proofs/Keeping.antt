-- What a heap keeps.
use Rattle.dary_heap.proofs.Common.{◌≡◌, ℕ, ◌-◌, Bool, true, false, List, ap, ◌∙◌, refl, slice_get, Ordering, IsHeapOrdered, IsHeapOrderedButAt, inl, inr, length, take, arith, cases_lt, slice_get_past}
use Rattle.dary_heap.proofs.Common.{slice_get_within}
use Rattle.dary_heap.proofs.Depth.{parent-below}
use Rattle.dary_heap.proofs.Order.{IsAtMost-none}
use Rattle.dary_heap.proofs.sift.Parts.{front-within}
use Rattle.std.specs.Prelude.{◌↔◌, IsTrue}
use Rattle.std.specs.Bool.{OnFalse}
use Rattle.dary_heap.specs.HeapOrder.{HasGreaterChild}

-- if a call moves something exactly if a child of the first item is greater, a heap stays as it is
pub heap_stays : {X : Type 0} {cmp : X → X → Ordering} (D : ℕ) (old new : List X) (moved : Bool) → (IsTrue moved ↔ HasGreaterChild cmp D 0 old) → OnFalse moved (new ≡ old) →
    IsHeapOrdered cmp D old → new ≡ old
heap_stays D old new true moves same h =
    let g = moves.0 refl in
    absurd ((h.below_parent g.child g.above).not_greater g.item g.held g.item_is (ap (slice_get old) g.parent_is ∙ g.held_is) g.greater)
heap_stays D old new false moves same h = same

-- ---- the last place of a heap's array, which has no children

module _ {X : Type 0} {cmp : X → X → Ordering} (D : ℕ) (xs : List X) where
  pub ordered_but_last : IsHeapOrdered cmp D (take (length xs - 1) xs) → IsHeapOrderedButAt cmp D (length xs - 1) xs
  ordered_but_last h =
      let last = length xs - 1 in
      let front = front-within D last xs (omega arith) h in
      record {
        elsewhere = λ i pos other apart. elim (cases_lt i last) [
          | inl before ↦ front.below_parent i pos before (omega arith)
          | inr from ↦ IsAtMost-none _ _ (slice_get_past xs i (omega (arith, from, other)))
        ];
        across = λ i high pos under. IsAtMost-none _ _ (slice_get_past xs i (omega (arith, parent-below D i pos, under)));
      }

  pub last_has_no_child : HasGreaterChild cmp D (length xs - 1) xs → ⊥
  last_has_no_child g = let within = slice_get_within xs g.child g.item g.item_is in absurd (omega (arith, within, parent-below D g.child g.above, g.parent_is))
