-- What a clause sees of a loan.
use Rattle.std.specs.Prelude.{Bool}
use Rattle.std.specs.Borrow.{GName}
use Rattle.dary_heap.specs.Contents.{Contents}
use Rattle.dary_heap.specs.declared.sift.judge.Judge as judge
use Rattle.dary_heap.specs.declared.peek_mut.loaned_items.LoanedItems as loaned_items
use Rattle.dary_heap.specs.declared.peek_mut.PeekMut.{PeekMut}
use Prim.Native.Nat.{ℕ}

module _ {T J I : Type 0} {D : ℕ} {j : judge.Ghosts J T} {h : loaned_items.Ghosts I T} where
  -- the heap as the end of the loan has it before any repair: its items, the first as last written, the capacity, and the comparisons so far
  abbrev pub loaned : PeekMut T D J I j h → Contents T
  loaned loan = record { items = h.list loan.items; capacity = h.room loan.items; comparisons = loan.heap.now.comparisons }

  -- whether the first item may have been written since the loan began or was last refreshed
  abbrev pub is_written : PeekMut T D J I j h → Bool
  is_written loan = loan.written

  -- what stands in the heap meanwhile
  abbrev pub left_behind : PeekMut T D J I j h → Contents T
  left_behind loan = loan.heap.now

  -- the name of the reference to the heap
  abbrev pub lender : PeekMut T D J I j h → GName
  lender loan = loan.heap.ghost_name
