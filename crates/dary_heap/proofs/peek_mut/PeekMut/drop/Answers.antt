use Rattle.dary_heap.proofs.Common.{IsPermutation-refl, length_permutation, ◌≡◌, refl, ap, ◌∙◌, length, front, IsSameBag, IsHeapOrdered, IsExceeded, loaned, arith}
use Rattle.dary_heap.proofs.peek_mut.Loans.{lone_uncounted, lone_unexceeded, sunk_unmoved}
use Rattle.dary_heap.proofs.sift.Written.{none_counted, same_contents, written_back}
use Rattle.dary_heap.proofs.peek_mut.PeekMut.drop.Goals.{After-swap, then-written, else-written}
use Rattle.dary_heap.proofs.peek_mut.PeekMut.drop.Goals as goal

-- what the heap's vector has then: the same items as a heap, and in the same places if none exceeds the first
left : (g : _) (c : After-swap g) → IsSameBag c.into_vec-items.result.items c.if-written.items.items × IsHeapOrdered g.J.Judge.order g.row.D c.if-written.items.items ×
    ((IsExceeded g.J.Judge.order (loaned c.args.self).items → ⊥) → c.if-written.items.items ≡ (loaned c.args.self).items)
left g c =
    let on_loan = c.args.self.on_loan in
    elim c.if-written.branch [
      | then-written w ↦
          let zs = w.sink_with.new.items in
          let all : length zs ≡ c.into_vec-items.result.len = w.sink_with.auto.items ∙ w.as_mut_slice.ensures.len in
          let is = w.as_mut_slice.ensures.value ∙ c.into_vec-items.ensures.items in
          rw (w.items-is, written_back _ zs _ all) (
            rw w.as_mut_slice.ensures.value at w.sink_with.ensures.bag,
            (rw is at w.sink_with.ensures.ordered) on_loan.below_root,
            sunk_unmoved g.row.D _ zs _ (rw is at w.sink_with.ensures.moved) (rw is at w.sink_with.ensures.unchanged),
          )
      | else-written w ↦ rw w.items-is (IsPermutation-refl _, rw c.into_vec-items.ensures.items (on_loan.whole w.if-written.false), λ none. c.into_vec-items.ensures.items)
    ]

pub returns-clause-unmoved : goal.returns-clause-unmoved
returns-clause-unmoved g c = λ none. ap (λ v. v.items) c.swap.ensures.x_after ∙ (left g (goal.at.returns-clause-unmoved g c).After-swap).2 none

pub returns-clause-first : goal.returns-clause-first
returns-clause-first g c = λ none. ap front (returns-clause-unmoved g c none)

pub returns-clause-ordered : goal.returns-clause-ordered
returns-clause-ordered g c =
    let on_loan = c.args.self.on_loan in
    rw c.swap.ensures.x_after (elim c.if-written.branch [
      | then-written w ↦
          let zs = w.sink_with.new.items in
          let all : length zs ≡ c.into_vec-items.result.len = w.sink_with.auto.items ∙ w.as_mut_slice.ensures.len in
          let is = w.as_mut_slice.ensures.value ∙ c.into_vec-items.ensures.items in
          rw (w.items-is, written_back _ zs _ all) ((rw is at w.sink_with.ensures.ordered) on_loan.below_root)
      | else-written w ↦ rw (w.items-is, c.into_vec-items.ensures.items) (on_loan.whole w.if-written.false)
    ])

pub invariant_of-heap : goal.invariant_of-heap
invariant_of-heap g c = rw c.swap.ensures.x_after (left g c).1

pub returns-clause-bag : goal.returns-clause-bag
returns-clause-bag g c = rw (c.swap.ensures.x_after, ← c.into_vec-items.ensures.items) (left g (goal.at.returns-clause-bag g c).After-swap).0

pub returns-clause-counted : goal.returns-clause-counted
returns-clause-counted g c = rw (← c.heap.view_is) (elim c.if-written.branch [
  | then-written w ↦ rw w.heap-inside-is (rw (w.as_mut_slice.ensures.value, c.into_vec-items.ensures.items) at w.sink_with.ensures.counted)
  | else-written w ↦ rw w.heap-inside-is (none_counted _ _)
])

pub returns-clause-tight : goal.returns-clause-tight
returns-clause-tight g c = rw (← c.heap.view_is) (elim c.if-written.branch [
  | then-written w ↦ rw w.heap-inside-is (rw (w.as_mut_slice.ensures.value, c.into_vec-items.ensures.items) at w.sink_with.ensures.tight)
  | else-written w ↦ rw w.heap-inside-is (none_counted _ _)
])

pub returns-clause-len : goal.returns-clause-len
returns-clause-len g c = length_permutation _ _ (returns-clause-bag g c)

pub returns-clause-capacity : goal.returns-clause-capacity
returns-clause-capacity g c = rw c.swap.ensures.x_after (elim c.if-written.branch [
  | then-written w ↦ rw w.items-is c.into_vec-items.ensures.capacity
  | else-written w ↦ rw w.items-is c.into_vec-items.ensures.capacity
])

pub returns-clause-unwritten : goal.returns-clause-unwritten
returns-clause-unwritten g c = λ settled. rw c.swap.ensures.x_after (elim c.if-written.branch [
  | then-written w ↦ grind arith
  | else-written w ↦ same_contents _ _ (rw w.items-is c.into_vec-items.ensures.items) (rw w.items-is c.into_vec-items.ensures.capacity) (rw (w.heap-inside-is, ← c.heap.view_is) refl)
])

pub returns-clause-alone : goal.returns-clause-alone
returns-clause-alone g c = λ one.
    let still = returns-clause-unmoved g c (lone_unexceeded g.J.Judge.order _ one) in
    same_contents _ _ still (returns-clause-capacity g c) (lone_uncounted g.row.D _ _ _ one (returns-clause-counted g c))

pub invariant_of-self : goal.invariant_of-self
invariant_of-self g c = record { on_loan = c.args.self.on_loan }
