use Rattle.dary_heap.proofs.{◌≡◌, ◌∙◌, ap, arith, length, min, if◌then◌else◌, vec_capacity, IsHeapOrdered, IsPermutation, length_permutation}
use Rattle.dary_heap.specs.iter.Candidates.{rest_of}
use Rattle.std.specs.Prelude.{◌==◌}
use Rattle.dary_heap.specs.Bounds.{candidates_bound}
use Rattle.dary_heap.proofs.iter.Candidates.{Begins, begins_first, begins_none, begins_rest, begins_right}
use Rattle.dary_heap.proofs.iter.InOrder.{gives_greatest}
use Rattle.dary_heap.specs.IterSorted.{lent}
use Rattle.dary_heap.proofs.heap.DaryHeap.iter_sorted_with.Goals.{then-left-ne0, else-left-ne0}
use Rattle.dary_heap.proofs.heap.DaryHeap.iter_sorted_with.Goals as goal

begins : (g : _) (c : goal.Joined-left-ne0 g) → Begins c.as_slice-items.result.now c.if-left-ne0.candidates.items c.min-left.result
begins g c = elim c.if-left-ne0.branch [
  | then-left-ne0 w ↦
      let items = c.as_slice-items.result.now in
      begins_first items _ _ _ _ (ap (λ v. v.items) w.candidates-is ∙ w.push_reserved.ensures.items) c.in_ok-candidates.ensures.items w.if-left-ne0.true
      (omega (arith, w.if-left-ne0.true, c.min-left.ensures)) w.index-items-0.is
  | else-left-ne0 w ↦ begins_none c.as_slice-items.result.now _ _ (omega (arith, w.if-left-ne0.false)) (ap (λ v. v.items) w.candidates-is ∙ c.in_ok-candidates.ensures.items)
]

has_room : (g : _) (c : goal.Joined-left-ne0 g) → vec_capacity c.if-left-ne0.candidates
    ≡ (if c.min-left.result == 0 then 0 else min (length c.as_slice-items.result.now) (candidates_bound g.row.D c.min-left.result))
has_room g c = elim c.if-left-ne0.branch [
  | then-left-ne0 w ↦ ap vec_capacity w.candidates-is ∙ w.push_reserved.ensures.capacity ∙ c.in_ok-candidates.ensures.exact ∙ c.room_for.ensures
  | else-left-ne0 w ↦ ap vec_capacity w.candidates-is ∙ c.in_ok-candidates.ensures.exact ∙ c.room_for.ensures
]

is_ordered : (g : _) (c : goal.Joined-left-ne0 g) → IsHeapOrdered g.J.Judge.order g.row.D c.as_slice-items.result.now
is_ordered g c = rw c.as_slice-items.ensures.items c.as_slice-items.ensures.ordered

pub invariant_of-result : goal.invariant_of-result
invariant_of-result g c =
    begins_right g.J.Judge.order g.row.D c.as_slice-items.result.now (is_ordered g c) c.if-left-ne0.candidates.items c.min-left.result
    (vec_capacity c.if-left-ne0.candidates) (begins g c) (omega (arith, c.min-left.ensures)) (has_room g c)

whole : (g : _) (c : goal.Joined-left-ne0 g) → IsPermutation c.as_slice-items.result.now (rest_of g.row.D c.as_slice-items.result.now c.if-left-ne0.candidates.items (vec_capacity c.if-left-ne0.candidates))
whole g c = begins_rest g.J.Judge.order g.row.D c.as_slice-items.result.now (is_ordered g c) c.if-left-ne0.candidates.items c.min-left.result (vec_capacity c.if-left-ne0.candidates) (begins g c)
    (omega (arith, c.min-left.ensures)) (has_room g c)

pub returns-clause-starts : goal.returns-clause-starts
returns-clause-starts g c = record {
  none_given = omega (arith, length_permutation _ _ (whole g c));
  bag = rw (← c.as_slice-items.ensures.items) (whole g c);
  left = c.min-left.ensures ∙ ap (λ items. min c.args.most (length items)) c.as_slice-items.ensures.items;
  room = has_room g c ∙ ap (λ items. if c.min-left.result == 0 then 0 else min (length items) (candidates_bound g.row.D c.min-left.result)) c.as_slice-items.ensures.items;
}

pub returns-clause-greatest : goal.returns-clause-greatest
returns-clause-greatest g c = gives_greatest lent g.J.Judge.order g.row.D _
