use Rattle.dary_heap.proofs.Common.{length, arith, None}
use Rattle.indexed_heap.proofs.Bounding.{fall_within, push_within}
use Rattle.indexed_heap.proofs.AsMap.{item_of-absent, item_of-has}
use Rattle.indexed_heap.proofs.Changing.{Gets-len}
use Rattle.indexed_heap.proofs.Sound.{holds}
use Rattle.indexed_heap.proofs.heap.IndexedHeap.lower.Goals as goal

pub returns-in-Ok-clause-len : goal.returns-in-Ok-clause-len
returns-in-Ok-clause-len g c =
    let xs = c.args.self.now.entries in
    rw (item_of-absent c.args.key xs c.in_default.ensures.none) (Gets-len c.args.key c.args.item xs c.add.new.self.entries None c.in-Ok.ensures.gets)

pub returns-in-Ok-clause-counted : goal.returns-in-Ok-clause-counted
returns-in-Ok-clause-counted g c =
    let counted = c.in-Ok.ensures.counted in
    record { rises = counted.rises; within = omega (arith, counted.within, push_within g.row.D (length c.args.self.now.entries)) }

pub returns-clause-len : goal.returns-clause-len
returns-clause-len g c =
    let xs = c.args.self.now.entries in let found = c.in-Some.ensures.found in
    let has = item_of-has c.args.key xs found.entry.1 c.in-Some.ensures.sound.distinct (holds xs c.in-Some.at c.args.key found.entry found found.there) in
    rw has (omega (arith, c.lower_at.ensures.len))

pub returns-clause-counted : goal.returns-clause-counted
returns-clause-counted g c =
    let counted = c.lower_at.ensures.counted in
    let few = fall_within g.row.D (length c.args.self.now.entries) c.in-Some.at in
    record { rises = counted.rises; within = omega (arith, counted.within, few) }
