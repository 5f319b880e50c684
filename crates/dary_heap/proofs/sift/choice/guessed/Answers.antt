use Rattle.dary_heap.proofs.Common.{◌+◌, length, refl, sym, subst, ◌∙◌, arith, slice_get_read, IsLastGreatest}
use Rattle.dary_heap.proofs.sift.Choosing.{greatest_of_one, joins-left, joins-right}
use Rattle.dary_heap.proofs.sift.choice.guessed.Goals.{then-at_most, else-at_most}
use Rattle.dary_heap.proofs.sift.choice.guessed.Goals as goal

pub loop-place-preserved : goal.loop-place-preserved
loop-place-preserved g c =
    let xs = c.args.hole.now.items in
    let first = c.args.first in
    let place = c.loop-place.place in
    let best = c.loop-place.best in
    let held = c.loop-place.invariant in
    let order = g.J.Judge.order in
    let best_is = slice_get_read xs (length xs) best c.get.result.now refl (omega (arith, held.greatest.to, c.requires.within, c.loop-place-test.true)) c.get.ensures in
    let place_is = slice_get_read xs (length xs) place c.get-in-loop-place.result.now refl (omega (arith, c.requires.within, c.loop-place-test.true)) c.get-in-loop-place.ensures in
    let here = greatest_of_one order place xs in
    record {
      greatest = elim c.if-at_most.branch [
        | then-at_most w ↦ subst (λ m. IsLastGreatest order first (place + 1) m xs) (sym w.best-is)
            (joins-right g.met.J.Judge.total xs first place (place + 1) best place _ _ best_is place_is held.greatest here (sym c.at_most.ensures.answer ∙ w.if-at_most.true))
        | else-at_most w ↦ subst (λ m. IsLastGreatest order first (place + 1) m xs) (sym w.best-is)
            (joins-left g.met.J.Judge.total xs first place (place + 1) best place _ _ best_is place_is held.greatest here (sym c.at_most.ensures.answer ∙ w.if-at_most.false))
      ];
      counted = omega (arith, held.counted, c.at_most.ensures.counted);
    }
