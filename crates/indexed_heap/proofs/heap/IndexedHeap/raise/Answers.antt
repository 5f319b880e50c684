use Rattle.dary_heap.proofs.Common.{◌<◌, length, arith, None, slice_get_within}
use Rattle.dary_heap.proofs.Depth.{depth-later}
use Rattle.indexed_heap.proofs.AsMap.{item_of-absent, item_of-has}
use Rattle.indexed_heap.proofs.Changing.{Gets-len}
use Rattle.indexed_heap.proofs.Sound.{holds}
use Rattle.indexed_heap.proofs.heap.IndexedHeap.raise.Goals as goal

pub returns-in-Ok-clause-len : goal.returns-in-Ok-clause-len
returns-in-Ok-clause-len g c =
    let xs = c.args.self.now.entries in
    rw (item_of-absent c.args.key xs c.in_default.ensures.none) (Gets-len c.args.key c.args.item xs c.add.new.self.entries None c.in-Ok.ensures.gets)

pub returns-clause-len : goal.returns-clause-len
returns-clause-len g c =
    let xs = c.args.self.now.entries in let found = c.in-Some.ensures.found in
    let has = item_of-has c.args.key xs found.entry.1 c.in-Some.ensures.sound.distinct (holds xs c.in-Some.at c.args.key found.entry found found.there) in
    rw has (omega (arith, c.raise_at.ensures.len))

pub returns-clause-counted : goal.returns-clause-counted
returns-clause-counted g c =
    let found = c.in-Some.ensures.found in let counted = c.raise_at.ensures.counted in
    let inside : c.in-Some.at < length c.args.self.now.entries = slice_get_within c.args.self.now.entries c.in-Some.at found.entry found.there in
    record { rises = counted.rises; within = omega (arith, counted.within, depth-later g.row.D c.in-Some.at (length c.args.self.now.entries) (omega (arith, inside))) }
