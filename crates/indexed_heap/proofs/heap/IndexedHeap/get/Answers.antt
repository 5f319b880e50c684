use Rattle.dary_heap.proofs.Common.{slice_get_within, slice_get-get_or, sym, arith}
use Rattle.indexed_heap.proofs.AsMap.{item_of-absent, item_of-has}
use Rattle.indexed_heap.proofs.Sound.{holds}
use Rattle.indexed_heap.proofs.heap.IndexedHeap.get.Goals as goal

pub returns-in_default-clause-map : goal.returns-in_default-clause-map
returns-in_default-clause-map g c = sym (item_of-absent c.args.key c.args.self.now.entries c.in_default.ensures.none)

pub bounds-as_slice-at : goal.bounds-as_slice-at
bounds-as_slice-at g c =
    let found = c.in-Some.ensures.found in
    rw c.as_slice.ensures.entries (slice_get_within c.args.self.now.entries c.in-Some.at found.entry found.there)

pub offset_bounds-as_slice-at : goal.offset_bounds-as_slice-at
offset_bounds-as_slice-at g c = let inside = bounds-as_slice-at g c in omega (arith, inside)

pub returns-clause-item : goal.returns-clause-item
returns-clause-item g c =
    let xs = c.args.self.now.entries in let at = c.in-Some.at in let found = c.in-Some.ensures.found in
    rw c.as_slice.ensures.entries (holds xs at c.args.key _ found (slice_get-get_or xs at c.index-as_slice-at.result (slice_get_within xs at found.entry found.there)))

pub returns-clause-map : goal.returns-clause-map
returns-clause-map g c = sym (item_of-has c.args.key c.args.self.now.entries _ c.in-Some.ensures.sound.distinct (returns-clause-item g c))
