use Rattle.dary_heap.proofs.Common.{◌≡◌, Some, rules, slice_get_within, slice_get-get_or, sym, arith}
use Rattle.indexed_heap.specs.Entries.{item_of}
use Rattle.indexed_heap.proofs.AsMap.{Gets-given, item_of-absent, item_of-has}
use Rattle.indexed_heap.proofs.Changing.{Gets-len, inserts_held}
use Rattle.indexed_heap.proofs.Sound.{holds}
use Rattle.indexed_heap.proofs.heap.IndexedHeap.change.Goals as goal

pub returns-in_default-clause-given : goal.returns-in_default-clause-given
returns-in_default-clause-given g c = sym (item_of-absent c.args.key c.args.self.now.entries c.in_default.ensures.none)

pub bounds-as_slice-at : goal.bounds-as_slice-at
bounds-as_slice-at g c =
    let found = c.in-Some.ensures.found in
    rw c.as_slice.ensures.entries (slice_get_within c.args.self.now.entries c.in-Some.at found.entry found.there)

pub offset_bounds-as_slice-at : goal.offset_bounds-as_slice-at
offset_bounds-as_slice-at g c = let inside = bounds-as_slice-at g c in omega (arith, inside)

pub f-made-requires : goal.f-made-requires
f-made-requires g c =
    let xs = c.args.self.now.entries in let at = c.in-Some.at in let found = c.in-Some.ensures.found in
    let there = slice_get-get_or xs at c.index-as_slice-at.result (slice_get_within xs at found.entry found.there) in
    let has = item_of-has c.args.key xs _ c.in-Some.ensures.sound.distinct (holds xs at c.args.key _ found there) in
    let may = c.requires _ has in
    rw c.as_slice.ensures.entries (search (rules, may))

pub returns-clause-given : goal.returns-clause-given
returns-clause-given g c = Gets-given c.args.key c.f-made.result c.args.self.now.entries c.replace.new.self.entries (Some c.replace.result) c.replace.ensures.gets c.in-Some.ensures.sound.distinct

pub returns-clause-gets : goal.returns-clause-gets
returns-clause-gets g c =
    let xs = c.args.self.now.entries in let at = c.in-Some.at in let found = c.in-Some.ensures.found in
    let there = slice_get-get_or xs at c.index-as_slice-at.result (slice_get_within xs at found.entry found.there) in
    let has = item_of-has c.args.key xs _ c.in-Some.ensures.sound.distinct (holds xs at c.args.key _ found there) in
    let given : Some c.replace.result ≡ item_of c.args.key xs = returns-clause-given g c in
    let slice = c.as_slice.ensures.entries in
    (c.f-made.result, (_, c.f-made.ensures, rw slice (cc)), c.replace.ensures.gets)

pub returns-clause-len : goal.returns-clause-len
returns-clause-len g c = omega (arith, Gets-len c.args.key c.f-made.result c.args.self.now.entries c.replace.new.self.entries (Some c.replace.result) c.replace.ensures.gets)

pub returns-clause-counted : goal.returns-clause-counted
returns-clause-counted g c =
    (inserts_held g.row.D c.args.key c.args.self.now.entries c.in-Some.ensures.sound.distinct c.in-Some.at c.in-Some.ensures.found _ _ c.replace.ensures.counted).held
