use Rattle.dary_heap.proofs.Common.{inl, arith, slice_get_within}
use Rattle.dary_heap.proofs.Path.{GoesUp-le}
use Rattle.indexed_heap.specs.Entries.{by_item}
use Rattle.indexed_heap.proofs.Changing.{replaced_raises}
use Rattle.indexed_heap.proofs.Raising.{set_moved}
use Rattle.indexed_heap.proofs.Sound.{sound}
use Rattle.indexed_heap.proofs.heap.IndexedHeap.raise_at.Goals as goal

pub returns-in_default-clause-sound : goal.returns-in_default-clause-sound
returns-in_default-clause-sound g c =
    let refused = c.in_default.ensures in
    sound g.row.D c.raise_at_returning_place.new.self.items c.self.inside.places.items refused.ordered (rw refused.unchanged c.self.invariant)

pub write_moved-requires : goal.write_moved-requires
write_moved-requires g c =
    let moved = c.in-Ok.ensures in let there = rw (← c.self.view_is) at c.requires in
    rw (c.as_slice.ensures.items, c.as_mut_slice.ensures.value)
    (set_moved g.row.D c.self.inside.entries.items c.self.inside.places.items c.args.at c.args.key c.args.item c.in-Ok.stop c.raise_at_returning_place.new.self.items
    c.self.invariant there (omega (arith, GoesUp-le g.row.D c.args.at c.in-Ok.stop moved.path, slice_get_within c.self.inside.entries.items c.args.at there.entry there.there, moved.len))
    (inl moved.path))

pub returns-clause-raised : goal.returns-clause-raised
returns-clause-raised g c =
    let moved = c.in-Ok.ensures in let there = rw (← c.self.view_is) at c.requires in
    rw (← c.self.view_is) (replaced_raises (by_item g.J.Judge.order) g.row.D c.args.key c.args.item c.self.inside.entries.items c.args.at there c.in-Ok.field-0-0 c.in-Ok.stop
    c.raise_at_returning_place.new.self.items
    moved.item moved.bag (omega (arith, GoesUp-le g.row.D c.args.at c.in-Ok.stop moved.path, slice_get_within c.self.inside.entries.items c.args.at there.entry there.there, moved.len))
    (inl moved.path) moved.greater)

pub returns-clause-len : goal.returns-clause-len
returns-clause-len g c = rw (← c.self.view_is) c.in-Ok.ensures.len

pub returns-clause-sound : goal.returns-clause-sound
returns-clause-sound g c = sound g.row.D c.raise_at_returning_place.new.self.items c.write_moved.new.places c.in-Ok.ensures.ordered (rw c.as_slice.ensures.items at c.write_moved.ensures)
