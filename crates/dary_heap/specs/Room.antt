-- What a request for room does to a heap, and what giving room back does. D is the const parameter.
use Rattle.std.specs.Prelude.{◌≡◌, ℕ, ◌+◌, ◌<◌, ◌≤◌, length, min, max, OnOk, OnErr, IsOk}
use Rattle.std.specs.declared.cmp.Ordering.{Ordering}
use Rattle.std.specs.declared.result.Result.{Result}
use Rattle.dary_heap.specs.Contents.{Contents}
use Rattle.dary_heap.specs.HeapOrder.{IsHeapOrdered}

-- room for so many more items was asked for: it fails only if that room was missing, and then nothing has changed
pub record Reserves {T A B : Type 0} (cmp : T → T → Ordering) (D additional : ℕ) (old new : Contents T) (result : Result A B) : Type 0 where
  pub items : new.items ≡ old.items
  pub ordered : IsHeapOrdered cmp D new.items
  pub room : OnOk result (length new.items + additional ≤ new.capacity)
  pub capacity : old.capacity ≤ new.capacity
  pub uncounted : new.comparisons ≡ old.comparisons
  pub succeeds : length old.items + additional ≤ old.capacity → IsOk result
  pub full : OnErr result (old.capacity < length old.items + additional)
  pub unchanged : OnErr result (new ≡ old)
  pub kept : length old.items + additional ≤ old.capacity → new ≡ old

-- the same with no room beyond
pub record ReservesExactly {T A B : Type 0} (cmp : T → T → Ordering) (D additional : ℕ) (old new : Contents T) (result : Result A B) : Type 0 where
  pub reserves : Reserves cmp D additional old new result
  pub exact : OnOk result (new.capacity ≡ max old.capacity (length old.items + additional))

-- room beyond `wanted` was to be given back: it fails only if there was such room, and then some of it is still there
pub record Shrinks {T A B : Type 0} (cmp : T → T → Ordering) (D wanted : ℕ) (old new : Contents T) (result : Result A B) : Type 0 where
  pub items : new.items ≡ old.items
  pub ordered : IsHeapOrdered cmp D new.items
  pub ok : OnOk result (new.capacity ≡ min old.capacity wanted)
  pub uncounted : new.comparisons ≡ old.comparisons
  pub succeeds : old.capacity ≤ wanted → IsOk result
  pub err : OnErr result (wanted < new.capacity)
  pub capacity : new.capacity ≤ old.capacity
