-- What items that come in one after another make of a heap.
use Rattle.std.specs.Prelude.{◌≡◌, ℕ, ◌+◌, ◌-◌, ◌≤◌, ◌++◌, List, [], ◌∷◌, length, map, Bool, Option, None}
use Rattle.std.specs.Bool.{MatchBool}
use Rattle.std.specs.Iterator.{Count, IsFinite, size, Yields, YieldsThen}
use Rattle.std.specs.declared.cmp.Ordering.{Ordering}
use Rattle.dary_heap.specs.Bag.{IsSameBag}
use Rattle.dary_heap.specs.Bounds.{RisesWithin, mend_bound}
use Rattle.dary_heap.specs.Contents.{Contents}
use Rattle.dary_heap.specs.HeapOrder.{IsHeapOrdered}

-- an iterator gave xs and then one item more, which was refused: with xs behind so many items, this capacity was used up
pub record IsRefusedAfter {S A : Type 0} (steps : S → Option A → S → Type 0) (from : S) (xs : List A) (len capacity : ℕ) : Type 0 where
  pub refused : A
  pub left : S
  pub gave : Yields steps from (xs ++ refused ∷ []) left
  pub full : capacity ≤ len + length xs

-- an iterator gave xs, and then none if it ended; otherwise it may go on
abbrev pub IsPoured : {S A : Type 0} → (S → Type 0) → (S → Count) → (S → Option A → S → Type 0) → S → List A → Bool → S → Type 0
IsPoured can left steps from xs ended to = MatchBool ended (YieldsThen steps from xs None to) (Yields steps from xs to × can to × IsFinite (left to) × (length xs + size (left to) ≤ size (left from)))

-- new has the items of old and xs
pub record IsExtended {T : Type 0} (cmp : T → T → Ordering) (D : ℕ) (old : Contents T) (xs : List T) (new : Contents T) : Type 0 where
  pub bag : IsSameBag (old.items ++ xs) new.items
  -- if none came in, they stay as they were
  pub unchanged : xs ≡ [] → new.items ≡ old.items
  pub ordered : IsHeapOrdered cmp D new.items
  pub len : length new.items ≡ length old.items + length xs
  pub counted : RisesWithin old.comparisons new.comparisons (mend_bound D (length new.items) (length new.items - length old.items))
  pub capacity : old.capacity ≤ new.capacity
  -- if there was room for all, it stays
  pub kept : length old.items + length xs ≤ old.capacity → new.capacity ≡ old.capacity

-- an iterator gave what came in, and then an item for which memory allocation failed
pub record IsExtendedUntilRefused {V S A T : Type 0} (becomes : V → S → Type 0) (steps : S → Option A → S → Type 0) (value : A → T) (cmp : T → T → Ordering) (D : ℕ) (iter : V)
    (old new : Contents T) : Type 0 where
  pub from : S
  pub came : List A
  pub begins : becomes iter from
  pub refused : IsRefusedAfter steps from came (length old.items) old.capacity
  pub extended : IsExtended cmp D old (map value came) new
