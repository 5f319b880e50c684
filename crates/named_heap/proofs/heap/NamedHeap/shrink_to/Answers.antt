use Rattle.std.proofs.Common.{◌≡◌, ◌+◌, ◌-◌, ◌≤◌, ℕ, List, ap, arith, length}
use Rattle.std.specs.Prelude.{min}
use Rattle.indexmap.specs.IndexSet.{spare}
use Rattle.named_heap.specs.Names.{room_of}
use Rattle.named_heap.proofs.Counting.{bound_named, entries_few, shrunk}
use Rattle.named_heap.proofs.Naming.{sound_of}
use Rattle.named_heap.proofs.heap.NamedHeap.shrink_to.Goals as goal

pub returns-clause-sound : goal.returns-clause-sound
returns-clause-sound g c = rw c.shrink_to.ensures.keys (rw c.shrink_to-2.ensures.room.items (sound_of c.self.inside.names.keys c.self.inside.heap.entries c.self.invariant g.met.K.Eq.laws))

pub returns-clause-kept : goal.returns-clause-kept
returns-clause-kept g c =
    let names = c.self.inside.names.keys in let entries = c.self.inside.heap.entries in
    let few = entries_few names entries c.self.invariant in
    let bound = bound_named names entries c.self.invariant in
    let names_are : length c.shrink_to.new.self.keys ≡ length names = ap (λ (l : List g.row.K.Denot). length l) c.shrink_to.ensures.keys in
    let entries_are : length c.shrink_to-2.new.self.entries ≡ length entries = ap (λ (l : List (ℕ × g.row.T.Denot)). length l) c.shrink_to-2.ensures.room.items in
    let asked : c.min-capacity.result ≡ length names + min c.args.names (spare c.self.inside.names) =
    omega (arith, c.len.ensures.len, c.saturating_add.ensures, c.capacity.ensures, c.min-capacity.ensures, c.capacity.type_inv) in
    let lower = c.shrink_to.ensures.lower_bound in let keys = c.shrink_to-2.ensures.keys in let room = shrunk c.shrink_to-2.ensures.room in
    let kept = min c.args.names (room_of c.self.inside.names c.self.inside.heap) in
    let of_names : kept ≤ spare c.shrink_to.new.self = omega (arith, names_are, asked, lower) in
    let of_entries : kept ≤ c.shrink_to-2.new.self.capacity - length c.shrink_to-2.new.self.entries = omega (arith, few, entries_are, asked, room) in
    let of_keys : kept ≤ c.shrink_to-2.new.self.keys - length c.shrink_to.new.self.keys = omega (arith, bound, names_are, asked, keys) in
    rw (← c.self.view_is) (omega (arith, of_names, of_entries, of_keys))

pub returns-clause-room : goal.returns-clause-room
returns-clause-room g c =
    let names = c.self.inside.names.keys in
    let bound = bound_named names c.self.inside.heap.entries c.self.invariant in
    let names_are : length c.shrink_to.new.self.keys ≡ length names = ap (λ (l : List g.row.K.Denot). length l) c.shrink_to.ensures.keys in
    let keys = c.shrink_to-2.ensures.keys in
    omega (arith, bound, names_are, keys, c.len.ensures.len, c.saturating_add.ensures, c.capacity.ensures, c.min-capacity.ensures, c.capacity.type_inv)
