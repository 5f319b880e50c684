use Rattle.std.specs.Ordering.{flip_args}
use Rattle.indexed_heap.specs.Entries.{by_item}
use Rattle.indexed_heap.proofs.Changing.{replaced_raises}
use Rattle.indexed_heap.proofs.Raising.{set_moved}
use Rattle.indexed_heap.proofs.Sound.{sound}
use Rattle.indexed_heap.proofs.heap.IndexedHeap.lower_at.Goals as goal

pub returns-in_default-clause-sound : goal.returns-in_default-clause-sound
returns-in_default-clause-sound g c =
    let refused = c.in_default.ensures in
    sound g.row.D c.lower_at_returning_place.new.self.items c.self.inside.places.items refused.ordered (rw refused.unchanged c.self.invariant)

pub write_moved-requires : goal.write_moved-requires
write_moved-requires g c =
    let moved = c.in-Ok.ensures in let there = rw (← c.self.view_is) at c.requires in
    rw (c.as_slice.ensures.items, c.as_mut_slice.ensures.value)
    (set_moved g.row.D c.self.inside.entries.items c.self.inside.places.items c.args.at c.args.key c.args.item c.in-Ok.stop c.lower_at_returning_place.new.self.items
    c.self.invariant there moved.within moved.path)

pub returns-clause-lowered : goal.returns-clause-lowered
returns-clause-lowered g c =
    let moved = c.in-Ok.ensures in let there = rw (← c.self.view_is) at c.requires in
    rw (← c.self.view_is) (replaced_raises (flip_args (by_item g.J.Judge.order)) g.row.D c.args.key c.args.item c.self.inside.entries.items c.args.at there c.in-Ok.field-0-0 c.in-Ok.stop
    c.lower_at_returning_place.new.self.items
    moved.item moved.bag moved.within moved.path moved.less)

pub returns-clause-len : goal.returns-clause-len
returns-clause-len g c = rw (← c.self.view_is) c.in-Ok.ensures.len

pub returns-clause-sound : goal.returns-clause-sound
returns-clause-sound g c = sound g.row.D c.lower_at_returning_place.new.self.items c.write_moved.new.places c.in-Ok.ensures.ordered (rw c.as_slice.ensures.items at c.write_moved.ensures)

pub returns-clause-counted : goal.returns-clause-counted
returns-clause-counted g c = rw (← c.self.view_is) c.in-Ok.ensures.counted
