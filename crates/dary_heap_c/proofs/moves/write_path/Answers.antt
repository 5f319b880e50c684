use Rattle.dary_heap.proofs.Common.{◌≡◌, length, slice_get-get_or, sym, ◌∙◌, subst, arith, length-set}
use Rattle.dary_heap.proofs.Depth.{parent-below}
use Rattle.dary_heap.proofs.Placing.{noted_last, noted_next}
use Rattle.dary_heap_c.specs.Places.{HaveKeys, value_of}
use Rattle.dary_heap_c.proofs.Placing.{noted_other, zero_entry}
use Rattle.dary_heap_c.proofs.moves.write_path.Goals as goal

pub returns-then-at-high-clause-right : goal.returns-then-at-high-clause-right
returns-then-at-high-clause-right g c = λ keys h.
    let before = c.loop-at.invariant in
    let xs = c.args.entries.now in let at = c.loop-at.at in
    let still = subst (λ n. HaveKeys n xs) (sym before.long) keys in
    rw c.note.ensures (noted_last value_of g.row.D xs c.loop-at.places at c.args.high _ (slice_get-get_or xs at zero_entry before.inside) still (before.right still h) c.if-at-high.true)

pub returns-then-at-high-clause-others : goal.returns-then-at-high-clause-others
returns-then-at-high-clause-others g c = λ value free.
    let before = c.loop-at.invariant in
    let xs = c.args.entries.now in let at = c.loop-at.at in
    rw c.note.ensures (noted_other xs c.loop-at.places at _ (slice_get-get_or xs at zero_entry before.inside) value free ∙ before.others value free)

pub loop-at-preserved : goal.loop-at-preserved
loop-at-preserved g c =
    let before = c.loop-at.invariant in
    let xs = c.args.entries.now in let at = c.loop-at.at in
    let there = slice_get-get_or xs at zero_entry before.inside in
    let same : length c.note.new.places ≡ length c.loop-at.places = rw c.note.ensures (length-set c.loop-at.places _ at) in
    record {
      inside = omega (arith, before.inside, c.if-at-high.false, c.parent-at.ensures, parent-below g.row.D at (omega (arith, c.if-at-high.false)));
      long = same ∙ before.long;
      right = λ keys h.
          let still = subst (λ n. HaveKeys n xs) same keys in
          rw c.note.ensures (rw c.parent-at.ensures (noted_next value_of g.row.D xs c.loop-at.places at c.args.high _ there still (before.right still h)));
      others = λ value free. rw c.note.ensures (noted_other xs c.loop-at.places at _ there value free ∙ before.others value free);
    }
