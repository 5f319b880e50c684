use Rattle.indexed_heap.proofs.Changing.{replaced_gets}
use Rattle.indexed_heap.proofs.Raising.{set_moved}
use Rattle.indexed_heap.proofs.Sound.{sound}
use Rattle.indexed_heap.proofs.heap.IndexedHeap.replace.Goals as goal

pub write_moved-requires : goal.write_moved-requires
write_moved-requires g c =
    let replaced = c.replace_at_returning_place-old in
    rw (c.as_slice.ensures.items, c.as_mut_slice.ensures.value)
    (set_moved g.row.D c.self.inside.entries.items c.self.inside.places.items c.args.at c.args.key c.args.item replaced.result.1 replaced.new.self.items
    c.self.invariant (rw (← c.self.view_is) at c.requires) replaced.ensures.within replaced.ensures.path)

pub returns-clause-gets : goal.returns-clause-gets
returns-clause-gets g c =
    let replaced = c.replace_at_returning_place-old in
    rw (← c.self.view_is) (replaced_gets g.row.D c.args.key c.args.item c.self.inside.entries.items c.args.at (rw
    (← c.self.view_is) at c.requires) replaced.result.0 replaced.result.1 replaced.new.self.items
    replaced.ensures.item replaced.ensures.bag replaced.ensures.within replaced.ensures.path)

pub returns-clause-sound : goal.returns-clause-sound
returns-clause-sound g c =
    sound g.row.D c.replace_at_returning_place-old.new.self.items c.write_moved.new.places c.replace_at_returning_place-old.ensures.ordered (rw c.as_slice.ensures.items at c.write_moved.ensures)

pub returns-clause-counted : goal.returns-clause-counted
returns-clause-counted g c = rw (← c.self.view_is) c.replace_at_returning_place-old.ensures.counted
