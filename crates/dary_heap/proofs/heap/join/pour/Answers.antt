use Rattle.dary_heap.proofs.Common.{[], ◌∷◌, sym, arith, append-nil, length-append, begun, again, less, Gave-then}
use Rattle.dary_heap.proofs.heap.Extending.{came_both}
use Rattle.dary_heap.proofs.heap.join.pour.Goals as goal

pub loop-rest-init : goal.loop-rest-init
loop-rest-init g c = begun c.requires.0 c.requires.1 (sym (append-nil _), omega arith, omega arith)

pub returns-in_default-clause-came : goal.returns-in_default-clause-came
returns-in_default-clause-came g c =
    let ran = c.loop-rest.invariant in
    (ran.seen, ran.holds.0, ran.holds.1, Gave-then ran c.in_default.is c.next.ensures.steps)

pub loop-rest-smaller : goal.loop-rest-smaller
loop-rest-smaller g c = less c.loop-rest.invariant c.in-Some.element c.in-Some.is c.next.ensures.goes

pub loop-rest-preserved : goal.loop-rest-preserved
loop-rest-preserved g c =
    let ran = c.loop-rest.invariant in
    let x = c.in-Some.element in
    let more = rw c.into_item.ensures at c.push_reserved.ensures.items in
    again ran x c.in-Some.is (c.next.ensures.steps, c.next.ensures.goes) (
      came_both g.X.Element.value _ _ _ ran.seen (x ∷ []) ran.holds.0 more,
      omega (arith, c.push_reserved.ensures.len, ran.holds.1, length-append ran.seen (x ∷ [])),
      omega (arith, c.push_reserved.ensures.capacity, ran.holds.2),
    )
