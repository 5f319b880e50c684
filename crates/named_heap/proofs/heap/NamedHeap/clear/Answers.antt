use Rattle.std.proofs.Common.{◌≡◌, ℕ, List, ap, arith, length}
use Rattle.named_heap.proofs.Counting.{entries_few, names_within}
use Rattle.named_heap.proofs.Naming.{length_of}
use Rattle.named_heap.proofs.heap.NamedHeap.clear.Goals as goal

pub returns-clause-room : goal.returns-clause-room
returns-clause-room g c =
    let names = c.self.inside.names.keys in let entries = c.self.inside.heap.entries in
    let long = length_of names entries c.self.invariant in
    let few = entries_few names entries c.self.invariant in
    let below = names_within names entries c.self.invariant c.key_capacity-keys.result c.key_capacity-keys.ensures.holds in
    let none : length c.clear.new.self.entries ≡ 0 = ap (λ (l : List (ℕ × g.row.T.Denot)). length l) c.clear.ensures.entries in
    let no_names = c.clear-2.ensures.len in let spare = c.clear-2.ensures.capacity in
    let capacity = c.clear.ensures.capacity in let keys = c.clear.ensures.keys in
    let fits = c.capacity-entries.ensures.holds in let is = c.capacity-entries.ensures.capacity in let keys_are = c.key_capacity-keys.ensures.keys in
    rw (← c.self.view_is) (omega (arith, long, few, below, none, no_names, spare, capacity, keys, fits, is, keys_are))
