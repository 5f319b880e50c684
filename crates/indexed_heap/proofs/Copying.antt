-- Copies of entries.
use Rattle.dary_heap.proofs.Common.{◌≡◌, ℕ, ◌<◌, List, [], ◌∷◌, refl, sym, ap, ◌∙◌, suc, zero, Some, slice_get, slice_get_within, Contains}
use Rattle.dary_heap.proofs.Common.{arith}
use Rattle.dary_heap.proofs.heap.Cloning.{clones_same}
use Rattle.std.specs.List.{AllZip}
use Rattle.indexed_heap.specs.Copying.{clones_item}
use Rattle.indexed_heap.specs.Places.{AreRight}

module _ {T : Type 0} (is_clone : T → T → Type 0) where
  -- keys stay, and each item's clone has the same value
  pub entries_same : (xs ys : List (ℕ × T)) → ((key : ℕ) (x y : T) → Contains xs (key, x) → is_clone x y → y ≡ x) → AllZip (clones_item is_clone) xs ys → ys ≡ xs
  entries_same xs ys gives h = clones_same (clones_item is_clone) xs ys (λ x y in' made. let item : y.1 ≡ x.1 = gives x.0 x.1 y.1 in' made.1 in (λ i. (made.0 i, item i))) h

  -- a clone stands at the place of its entry
  clone_of : (xs ys : List (ℕ × T)) → AllZip (clones_item is_clone) xs ys → (i : ℕ) (y : ℕ × T) → slice_get ys i ≡ Some y → (x : ℕ × T) × (slice_get xs i ≡ Some x) × (x.0 ≡ y.0)
  clone_of [] [] h i y there = let inside : i < 0 = slice_get_within [] i y there in absurd (omega arith)
  clone_of [] (z ∷ zs) h i y there = absurd h
  clone_of (x ∷ xs) [] h i y there = absurd h
  clone_of (x ∷ xs) (z ∷ zs) h zero y there = (x, refl, (let is : z ≡ y = (cc) in sym h.0.0 ∙ ap (λ (e : ℕ × T). e.0) is))
  clone_of (x ∷ xs) (z ∷ zs) h (suc i) y there = clone_of xs zs h.1 i y there

  -- so the same table is right for the clones
  pub clones_right : (xs ys : List (ℕ × T)) (places : List ℕ) → AllZip (clones_item is_clone) xs ys → AreRight xs places → AreRight ys places
  clones_right xs ys places h right = record {
    right = λ i entry there. let x = clone_of xs ys h i entry there in ap (slice_get places) (sym x.2) ∙ right.right i x.0 x.1;
  }
