-- Numbers of a heap that are lowered to a bound, the greatest first.
use Rattle.dary_heap_uses.proofs.Common.{Contains, IsPermutation-map, IsPermutation-trans, IsSameBag, List, Some, [], ap, arith, map, nat_cmp, nat_cmp_total, nat_le_from_cmp, sym, subst, ℕ, ◌<◌, ◌∙◌, ◌∷◌, ◌≡◌, ◌≤◌}
use Rattle.dary_heap.proofs.Bags.{Contains-first, Contains-later}
use Rattle.dary_heap.proofs.Fronts.{ordered_state}
use Rattle.dary_heap.specs.HeapOrder.{IsHeapOrdered}
use Rattle.dary_heap.specs.BagState.{front}
use Rattle.std.specs.List.{slice_set}
use Rattle.std.specs.Prelude.{min, refl}

module _ (bound : ℕ) where
  abbrev pub lowered : List ℕ → List ℕ
  lowered items = map (λ number. min number bound) items

  -- the bound came for a greater number
  pub lowered_more : (old items after : List ℕ) (held : ℕ) → IsSameBag (lowered old) (lowered items) → front items ≡ Some held → bound < held → IsSameBag (slice_set items 0 bound) after →
      IsSameBag (lowered old) (lowered after)
  lowered_more old [] after held before first above same = cc
  lowered_more old (top ∷ rest) after held before first above same =
      let is : top ≡ held = cc in
      let low : min top bound ≡ min bound bound = omega (arith, is, above) in
      IsPermutation-trans _ _ _ before
      (subst (λ v. IsSameBag (v ∷ lowered rest) (lowered after)) (sym low) (IsPermutation-map (λ number. min number bound) (bound ∷ rest) after same))

  -- numbers of which none is above the bound stay
  lowered_none : (items : List ℕ) → ((x : ℕ) → Contains items x → x ≤ bound) → lowered items ≡ items
  lowered_none [] low = refl
  lowered_none (x ∷ xs) low =
      let same : min x bound ≡ x = omega (arith, low x (Contains-first x xs)) in
      ap (λ v. v ∷ lowered xs) same ∙ ap (λ l. x ∷ l) (lowered_none xs (λ y in'. low y (Contains-later x xs y in')))

  -- none is above the bound once the greatest is not
  pub lowered_all : (D : ℕ) (old items : List ℕ) (shown : ℕ) → IsSameBag (lowered old) (lowered items) → IsHeapOrdered nat_cmp D items → front items ≡ Some shown → shown ≤ bound →
      IsSameBag (lowered old) items
  lowered_all D old items shown before ordered first low =
      let greatest = (ordered_state nat_cmp_total D items ordered).greatest shown first in
      subst (IsSameBag (lowered old)) (lowered_none items (λ x in'. omega (arith, nat_le_from_cmp x shown (greatest.none_above x in'), low))) before
