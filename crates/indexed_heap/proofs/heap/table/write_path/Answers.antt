use Rattle.dary_heap.proofs.Common.{arith, rules, get_or, length-set, set, subst, sym, slice_get-get_or}
use Rattle.dary_heap.proofs.Depth.{parent-below}
use Rattle.dary_heap.proofs.Path.{next_above}
use Rattle.dary_heap.proofs.Placing.{noted_last, noted_next}
use Rattle.dary_heap.specs.Path.{IsAbove}
use Rattle.indexed_heap.specs.Places.{AreRightOffPath, key_of}
use Rattle.indexed_heap.proofs.heap.table.write_path.Goals as goal

pub loop-at-preserved : goal.loop-at-preserved
loop-at-preserved g c =
    let before = c.loop-at.invariant in
    let entries = c.args.entries.now in let at = c.loop-at.at in
    let is = c.parent-at.ensures in
    let entry = get_or entries at c.index-entries-at.result in
    let there = slice_get-get_or entries at c.index-entries-at.result before.inside in
    let keys = before.right.0 in
    let noted = noted_next key_of g.row.D entries c.loop-at.places at c.args.high entry there keys before.right.1 in
    record {
      inside = omega (arith, is, parent-below g.row.D at (omega (arith, c.loop-at-test.true)), before.inside);
      above = subst (IsAbove g.row.D c.args.high) (sym is) (next_above g.row.D c.args.high at c.loop-at-test.true before.above);
      right = subst (λ p. AreRightOffPath g.row.D p c.args.high entries (set c.loop-at.places entry.0 at)) (sym is) (rw (length-set c.loop-at.places entry.0 at) keys, noted);
    }

pub bounds-places-entries-2 : goal.bounds-places-entries-2
bounds-places-entries-2 g c =
    let before = c.loop-at.invariant in
    before.right.0.below c.loop-at.at _ (slice_get-get_or c.args.entries.now c.loop-at.at c.index-entries-at-2.result before.inside)

pub offset_bounds-places-entries-2 : goal.offset_bounds-places-entries-2
offset_bounds-places-entries-2 g c = let inside = bounds-places-entries-2 g c in search rules

pub returns : goal.returns
returns g c =
    let before = c.loop-at.invariant in
    let entries = c.args.entries.now in let at = c.loop-at.at in
    noted_last key_of g.row.D entries c.loop-at.places at c.args.high _ (slice_get-get_or entries at c.index-entries-at-2.result before.inside) before.right.0 before.right.1
    (omega (arith, c.loop-at-test.false))
