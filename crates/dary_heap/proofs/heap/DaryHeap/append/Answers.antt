use Rattle.std.proofs.lemmas.Grind.{common_steps}
use Rattle.dary_heap.proofs.{◌++◌, length, length-append, ap, ◌∙◌, arith, IsPermutation-trans, length_permutation, IsPermutation-append_comm, none_ordered}
use Rattle.dary_heap.proofs.heap.DaryHeap.append.Goals as goal
use Rattle.dary_heap.proofs.heap.DaryHeap.append.Goals.{then-len+in-Ok, else-len+in-Ok-reserve}

pub returns-clause-bag : goal.returns-clause-bag
returns-clause-bag g c =
    elim c.if-len.branch [
      | then-len+in-Ok w ↦
          let placed = rw (w.self-inside-is, w.other-inside-is) at c.take_in.ensures.bag in
          let swapped = rw (w.swap.ensures.x_after, w.swap.ensures.y_after) at placed in
          let bag = rw w.reserve.ensures.items at swapped in
          IsPermutation-trans _ (c.args.other.now.items ++ c.args.self.now.items) _ (IsPermutation-append_comm c.args.self.now.items c.args.other.now.items)
          (rw (← c.self.view_is, ← c.other.view_is) bag)
      | else-len+in-Ok-reserve w ↦
          let placed = rw (w.self-inside-is, w.other-inside-is) at c.take_in.ensures.bag in
          rw (← c.self.view_is, ← c.other.view_is) (rw w.reserve-else-len.ensures.items at placed)
    ]

pub returns-clause-same_items : goal.returns-clause-same_items
returns-clause-same_items g c = λ none.
    let empty = rw (← c.other.view_is) at none in
    elim c.if-len.branch [
      | then-len+in-Ok w ↦ absurd (omega (arith, ap length empty, w.if-len.true, c.len-2.ensures, c.other.inside.items.ok.0))
      | else-len+in-Ok-reserve w ↦
          let placed = rw (w.self-inside-is, w.other-inside-is) at c.take_in.ensures.same_items in
          let kept = rw w.reserve-else-len.ensures.items at placed in
          rw (← c.self.view_is) (kept empty)
    ]

pub returns-clause-len : goal.returns-clause-len
returns-clause-len g c = length_permutation _ _ (returns-clause-bag g c) ∙ length-append c.args.self.now.items c.args.other.now.items

-- the longer heap is ordered, and so is what it is mended to
pub invariant_of-self-2 : goal.invariant_of-self-2
invariant_of-self-2 g c = c.take_in.ensures.ordered (elim c.if-len.branch [
  | then-len+in-Ok w ↦ rw (w.self-inside-is, w.swap.ensures.x_after, w.reserve.ensures.items) c.other.invariant
  | else-len+in-Ok-reserve w ↦ rw (w.self-inside-is, w.reserve-else-len.ensures.items) c.self.invariant
])

pub returns-clause-ordered : goal.returns-clause-ordered
returns-clause-ordered g c = invariant_of-self-2 g c

-- the shorter heap has no items then
pub invariant_of-other-2 : goal.invariant_of-other-2
invariant_of-other-2 g c = none_ordered _ c.take_in.ensures.emptied

pub returns-clause-other_ordered : goal.returns-clause-other_ordered
returns-clause-other_ordered g c = none_ordered _ c.take_in.ensures.emptied

pub returns-in_default-reserve : goal.returns-in_default-reserve
returns-in_default-reserve g c = grind arith

pub returns-clause-uncounted : goal.returns-clause-uncounted
returns-clause-uncounted g c = grind arith

pub returns-clause-other_capacity : goal.returns-clause-other_capacity
returns-clause-other_capacity g c = grind (arith, common_steps)
