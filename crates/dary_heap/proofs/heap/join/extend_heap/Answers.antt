use Rattle.dary_heap.proofs.Common.{◌≡◌, ◌++◌, length, length-map, take, map, vec_capacity, sym, ap, ◌∙◌, subst, IsExtended, IsHeapOrdered, MatchResult-weaker, arith, common_steps}
use Rattle.dary_heap.proofs.heap.Extending.{Yields-front, mended}
use Rattle.dary_heap.proofs.sift.Written.{written_back}
use Rattle.dary_heap.proofs.heap.join.extend_heap.Goals.{After-mend_with}
use Rattle.dary_heap.proofs.heap.join.extend_heap.Goals as goal

-- the slice before it is mended
behind : (g : _) (c : After-mend_with g) → c.as_mut_slice.result.now ≡ c.heap.inside.items.items ++ map g.X.Element.value c.push_all-outcome.ensures.came.0
behind g c = c.as_mut_slice.ensures.value ∙ c.push_all-outcome.ensures.came.1

-- mending keeps the length
all : (g : _) (c : After-mend_with g) → length c.mend_with.new.items ≡ c.push_all-outcome.new.items.len
all g c = c.mend_with.auto.items ∙ c.as_mut_slice.ensures.len

start : (g : _) (c : After-mend_with g) → c.len-start.result ≡ length c.heap.inside.items.items
start g c = c.len-start.ensures ∙ c.heap.inside.items.ok.0

ordered : (g : _) (c : After-mend_with g) → IsHeapOrdered g.J.Judge.order g.row.D c.mend_with.new.items
ordered g c =
    let xs = c.heap.inside.items.items in
    let front : take c.len-start.result c.as_mut_slice.result.now ≡ xs = ap (take c.len-start.result) (behind g c) ∙ written_back _ xs _ (sym (start g c)) in
    c.mend_with.ensures.ordered (subst (IsHeapOrdered g.J.Judge.order g.row.D) (sym front) c.heap.invariant)

-- what came in is taken into the heap
taken : (g : _) (c : After-mend_with g) → IsExtended g.J.Judge.order g.row.D
    (record { items = c.heap.inside.items.items; capacity = vec_capacity c.heap.inside.items; comparisons = g.J.Judge.count c.heap.inside.judge })
    (map g.X.Element.value c.push_all-outcome.ensures.came.0)
    (record { items = c.mend_with.new.items; capacity = vec_capacity c.push_all-outcome.new.items; comparisons = g.J.Judge.count c.mend_with.new.judge })
taken g c = mended _ _ _ _ c.len-start.result (behind g c) (start g c) (sym c.mend_with.auto.items) c.mend_with.ensures.bag c.mend_with.ensures.unchanged
    (ordered g c) c.mend_with.ensures.counted c.push_all-outcome.ensures.capacity
    (λ fits. c.push_all-outcome.ensures.came.2 (omega (arith, fits, c.heap.inside.items.ok.0, length-map c.push_all-outcome.ensures.came.0 g.X.Element.value)))

-- the heap is ordered at the end
pub invariant_of-heap : goal.invariant_of-heap
invariant_of-heap g c =
    let here = (goal.at.invariant_of-heap g c).After-mend_with in
    rw (written_back _ _ _ (all g here)) (ordered g here)

pub returns-clause-refused : goal.returns-clause-refused
returns-clause-refused g c =
    let k = c.push_all-outcome.ensures.came in
    let here = (goal.at.returns-clause-refused g c).After-mend_with in
    rw (← c.heap.view_is) (MatchResult-weaker c.push_all-outcome.result k.3 (λ u drains. tt) (λ e refusal. record {
      from = c.into_iter-iter.result;
      came = k.0;
      begins = c.into_iter-iter.ensures.into_iter_gives;
      refused = record { refused = refusal.refused; left = refusal.left; gave = refusal.gave; full = rw (← c.heap.inside.items.ok.0) refusal.full };
      extended = rw (written_back _ _ _ (all g here)) (taken g here);
    }))

-- what the heap holds at the end
pub returns-clause-ran : goal.returns-clause-ran
returns-clause-ran g c =
    let k = c.push_all-outcome.ensures.came in
    let here = (goal.at.returns-clause-ran g c).After-mend_with in
    rw (← c.heap.view_is) (
      c.into_iter-iter.result,
      k.0,
      c.into_iter-iter.ensures.into_iter_gives,
      rw (written_back _ _ _ (all g here)) (taken g here),
      MatchResult-weaker c.push_all-outcome.result k.3 (λ u drains. drains)
          (λ e refused. Yields-front g.U.IntoIter.Iterator.next_gives c.into_iter-iter.result k.0 refused.refused refused.left refused.gave),
    )

-- what the call asks of the iterator that comes is what it was told
pub push_all-outcome-requires : goal.push_all-outcome-requires
push_all-outcome-requires g c = c.requires c.into_iter-iter.result c.into_iter-iter.ensures.into_iter_gives

pub mend_with-requires : goal.mend_with-requires
mend_with-requires g c = grind (arith, common_steps)
