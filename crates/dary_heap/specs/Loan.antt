-- The items of a heap whose first is on loan.
use Rattle.std.specs.Prelude.{◌≡◌, ℕ, zero, suc, ◌-◌, ◌<◌, Bool, true, false, List, [], ◌∷◌, length, slice_get, slice_set, Some}
use Rattle.std.specs.declared.cmp.Ordering.{Ordering}
use Rattle.std.proofs.Common.{arith, refl, sym, ◌∙◌}
use Rattle.std.proofs.Props.{props}
use Rattle.std.proofs.lemmas.Bool.{true≢false}
use Rattle.std.proofs.Math.Nat.{div-le_self}
use Rattle.dary_heap.specs.Bag.{HasGreater}
use Rattle.dary_heap.specs.HeapOrder.{arity, parent, IsHeapOrdered, IsHeapOrderedBelowRoot}

-- another item is strictly greater than the first
abbrev pub IsExceeded : {T : Type 0} → (T → T → Ordering) → List T → Type 0
IsExceeded cmp [] = ⊥
IsExceeded cmp (held ∷ rest) = HasGreater cmp rest held

-- there is a first item, and the items are heap ordered, except that the first may be exceeded by its children once it was written
pub record IsOnLoan {T : Type 0} (cmp : T → T → Ordering) (D : ℕ) (written : Bool) (items : List T) : Type 0 where
  pub some : 0 < length items
  pub below_root : IsHeapOrderedBelowRoot cmp D items
  pub whole : written ≡ false → IsHeapOrdered cmp D items

pub IsOnLoan-prop : {T : Type 0} (cmp : T → T → Ordering) (D : ℕ) (written : Bool) (items : List T) → IsProp (IsOnLoan cmp D written items)
IsOnLoan-prop cmp D written items = Prim.hlevel props

-- what is written to the first item changes no other
behind : {T : Type 0} (w held : T) (rest : List T) (i : ℕ) → 0 < i → slice_get (w ∷ rest) i ≡ slice_get (held ∷ rest) i
behind w held rest zero up = absurd (omega arith)
behind w held rest (suc k) up = refl

pub IsOnLoan-written : {T : Type 0} (cmp : T → T → Ordering) (D : ℕ) (written : Bool) (items : List T) (w : T) → IsOnLoan cmp D written items → IsOnLoan cmp D true (slice_set items 0 w)
IsOnLoan-written cmp D written [] w h = absurd (omega (arith, h.some))
IsOnLoan-written cmp D written (held ∷ rest) w h = record {
  some = omega arith;
  below_root = record {
    below_parent = λ i under. record {
      not_greater = λ x y p q.
          let here : slice_get (held ∷ rest) i ≡ Some x = sym (behind w held rest i (omega (arith, div-le_self (i - 1) (arity D)))) ∙ p in
          (h.below_root.below_parent i under).not_greater x y here (sym (behind w held rest (parent D i) under) ∙ q);
    };
  };
  whole = λ e. absurd (true≢false e);
}
