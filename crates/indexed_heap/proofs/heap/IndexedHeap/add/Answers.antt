use Rattle.dary_heap.proofs.Common.{◌≡◌, ◌<◌, length, ap, ◌∙◌, arith}
use Rattle.dary_heap.proofs.Path.{GoesUp-le}
use Rattle.indexed_heap.specs.Entries.{Indexed, IsAbsent}
use Rattle.indexed_heap.proofs.Changing.{gets_new}
use Rattle.indexed_heap.proofs.Removing.{added_moved}
use Rattle.indexed_heap.proofs.Sound.{sound}
use Rattle.indexed_heap.proofs.heap.IndexedHeap.add.Goals as goal

pub write_moved-requires : goal.write_moved-requires
write_moved-requires g c =
    let xs = c.self.inside.entries.items in let places = c.self.inside.places in let pushed = c.push_returning_place-stop in
    let same : xs ≡ c.args.self.now.entries = ap (λ (h : Indexed g.row.T.Denot). h.entries) c.self.view_is ∙ c.ensure_room.ensures.entries in
    let absent : IsAbsent c.args.key xs = rw same c.requires in
    let room : c.args.key < length places.items = omega (arith, c.in-Ok.ensures.made.widened, ap (λ (h : Indexed g.row.T.Denot). h.keys) c.self.view_is, places.ok.0) in
    let within : pushed.result < length pushed.new.self.items = omega (arith, GoesUp-le g.row.D (length xs) pushed.result {new = pushed.new.self.items} pushed.ensures.path, pushed.ensures.len) in
    rw (c.len-last.ensures.len, c.as_slice.ensures.items, c.as_mut_slice.ensures.value) (added_moved g.row.D xs places.items
    (c.args.key, c.args.item) pushed.result pushed.new.self.items c.self.invariant absent room within pushed.ensures.path)

pub returns-clause-gets : goal.returns-clause-gets
returns-clause-gets g c =
    let same : c.self.inside.entries.items ≡ c.args.self.now.entries = ap (λ (h : Indexed g.row.T.Denot). h.entries) c.self.view_is ∙ c.ensure_room.ensures.entries in
    gets_new c.args.key c.args.item c.args.self.now.entries c.push_returning_place-stop.new.self.items (rw same at c.push_returning_place-stop.ensures.bag) c.requires

pub returns-clause-sound : goal.returns-clause-sound
returns-clause-sound g c =
    sound g.row.D c.push_returning_place-stop.new.self.items c.write_moved.new.places c.push_returning_place-stop.ensures.ordered (rw c.as_slice.ensures.items at c.write_moved.ensures)
