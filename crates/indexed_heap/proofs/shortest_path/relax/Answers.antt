use Rattle.dary_heap.proofs.Common.{◌≡◌, List, ◌<◌, ◌+◌, ◌≤◌, ◌∙◌, sym, mul-le-mul_right, push_bound, arith, ap, get_or, get_or_default, length, take_more}
use Rattle.dary_heap.specs.declared.shortest_path.Edge.{Edge}
use Rattle.dary_heap.proofs.shortest_path.Relaxing.{relaxes_kept, relaxes_more}
use Rattle.indexed_heap.specs.Lowering.{states}
use Rattle.indexed_heap.proofs.shortest_path.Counting.{raises_more}
use Rattle.indexed_heap.proofs.shortest_path.Lowering.{relaxes_lowered}
use Rattle.indexed_heap.proofs.shortest_path.Waiting.{same_room}
use Rattle.indexed_heap.proofs.shortest_path.Tracing.{notes_kept, notes_lower, notes_more}
use Rattle.indexed_heap.proofs.shortest_path.relax.Goals.{then-next-dist, else-next-dist}
use Rattle.indexed_heap.proofs.shortest_path.relax.Goals as goal

pub loop-edge-preserved : goal.loop-edge-preserved
loop-edge-preserved g c =
    let none : Edge = record { node = 0; cost = 0 } in
    let edge = get_or c.deref-edge-items.result.now c.loop-edge.edge-index none in
    let before = c.loop-edge.invariant in
    let found = c.loop-edge.dist in
    let inside : edge.node < length found = omega (arith, (rw (← c.deref-edge-items.ensures.value) at c.requires.within) c.loop-edge.edge-index none c.loop-edge-test.true, c.loop-edge.auto.dist) in
    let read : get_or found edge.node 0 ≡ get_or found edge.node 18446744073709551615 = get_or_default found edge.node 0 18446744073709551615 inside in
    rw (take_more c.deref-edge-items.result.now c.loop-edge.edge-index none c.loop-edge-test.true) (elim c.if-next-dist.branch [
      | then-next-dist w ↦
          let done = w.wait_at.ensures in
          rw (w.dist-is, w.prev-is, w.heap-is) record {
            ready = done.ready;
            room = same_room before.room done.room;
            lowers = relaxes_more before.lowers (rw done.dist
                (relaxes_lowered edge found (omega arith) inside c.loop-edge.heap w.wait_at.new.heap before.ready (omega (arith, read, w.if-next-dist.true)) done.waits
                (rw done.dist at done.ready)));
            noted = notes_more before.noted
                (rw done.dist (notes_lower edge found c.loop-edge.prev inside (c.loop-edge.auto.prev ∙ c.requires.prev ∙ sym c.loop-edge.auto.dist) (omega (arith, read, w.if-next-dist.true))));
            counted = raises_more g.row.D _ _ before.counted (rw before.lowers.same at done.counted);
          }
      | else-next-dist w ↦ rw (w.dist-is, w.prev-is, w.heap-is) record {
        ready = before.ready;
        room = before.room;
        lowers = relaxes_more before.lowers (relaxes_kept edge found (states c.loop-edge.heap.entries) (omega arith) inside _ (get_or_default found edge.node 0 _ inside) w.if-next-dist.false);
        noted = notes_more before.noted (notes_kept edge);
        counted = record { rises = before.counted.rises; within = omega (arith, before.counted.within) };
      }
    ])

pub returns-then-edge-cost-clause-counted : goal.returns-then-edge-cost-clause-counted
returns-then-edge-cost-clause-counted g c =
    let before = c.loop-edge.invariant.counted in
    let few : c.loop-edge.edge-index ≤ length c.args.edges.now.items = omega (arith, c.loop-edge-test.true, ap (λ (l : List Edge). length l) c.deref-edge-items.ensures.value) in
    record { rises = before.rises; within = omega (arith, before.within, mul-le-mul_right (push_bound g.row.D (length c.args.dist.now) + 1) few) }
