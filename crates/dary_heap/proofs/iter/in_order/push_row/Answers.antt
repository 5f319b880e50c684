use Rattle.dary_heap.proofs.{◌∙◌, arith}
use Rattle.dary_heap.proofs.iter.Candidates.{pushed_more, row_more, stand_more}
use Rattle.std.proofs.lemmas.List.Sorted.{IsPermutation-map}
use Rattle.dary_heap.proofs.iter.in_order.push_row.Goals as goal

pub loop-place-preserved : goal.loop-place-preserved
loop-place-preserved g c =
    let before = c.loop-place.invariant in
    let pushed = c.push_reserved_with.ensures in
    let here = c.loop-place-test.true in
    record {
      within = (omega (arith, before.within.0), omega (arith, here), before.within.2);
      places = row_more c.args.first c.loop-place.place _ _ _ before.within.0 before.places (IsPermutation-map (λ c. c.1) _ _ pushed.bag);
      stand = λ stand. stand_more c.args.items.now _ _ _ pushed.bag (omega (arith, here, before.within.2)) c.index-items-place.is (before.stand stand);
      ordered = pushed.ordered before.ordered;
      len = pushed.len ∙ omega (arith, before.len, before.within.0);
      counted = pushed_more c.args.first c.loop-place.place _ _ _ _ _ before.within.0 (omega (arith, here, before.len, before.within.0)) before.counted pushed.counted;
      capacity = pushed.capacity ∙ before.capacity;
    }
