-- What a contract sees of a `DrainSorted`: the heap that it pops from, and by which reference it holds it.
use Rattle.std.specs.Prelude.{◌≡◌, ℕ, List, Option}
use Rattle.std.specs.Borrow.{GName}
use Rattle.std.specs.Iterator.{Yields}
use Rattle.std.specs.declared.cmp.Ordering.{Ordering}
use Rattle.dary_heap.specs.Contents.{Contents}
use Rattle.dary_heap.specs.Popping.{IsPop}
use Rattle.dary_heap.specs.declared.iter.drain_sorted.DrainSorted.{DrainSorted}

module _ {T J : Type 0} {D : ℕ} where
  -- the heap, with the items that are left
  abbrev pub drained_heap : DrainSorted T D J → Contents T
  drained_heap it = it.heap.now

  -- the heap's reference, by its ghost name
  abbrev pub drained_lender : DrainSorted T D J → GName
  drained_lender it = it.heap.ghost_name

  -- `next` took old to new: a pop of the same heap
  abbrev pub DrainsSorted : (T → T → Ordering) → DrainSorted T D J → Option T → DrainSorted T D J → Type 0
  DrainsSorted cmp old popped new = IsPop cmp D (drained_heap old) popped (drained_heap new) × (drained_lender new ≡ drained_lender old)

  -- however often `next` is called, the heap is that of the first state
  abbrev pub KeepsHeapAlong : (T → T → Ordering) → DrainSorted T D J → Type 0
  KeepsHeapAlong cmp first = (items : List T) (later : DrainSorted T D J) → Yields (DrainsSorted cmp) first items later → drained_lender later ≡ drained_lender first
