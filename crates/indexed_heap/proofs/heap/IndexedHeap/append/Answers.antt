use Rattle.dary_heap.proofs.Common.{ℕ, ◌+◌, ◌<◌, ◌≤◌, ap, arith, length, rules}
use Rattle.indexed_heap.specs.Entries.{Indexed, IsEntry}
use Rattle.indexed_heap.proofs.heap.IndexedHeap.append.Goals as goal

pub insert_all-requires : goal.insert_all-requires
insert_all-requires g c =
    let xs = c.other.inside.entries.items in let heap = c.reserve.new.self in
    let made = c.in_ok-reserve.ensures in
    let room : length heap.entries + length xs ≤ heap.capacity = omega (arith, made.room, c.len.ensures.len, ap (λ (h : Indexed g.row.T.Denot). length h.entries) c.other.view_is) in
    let keyed : (at key : ℕ) → IsEntry xs at key → key < heap.keys = λ at key h. omega (arith, (rw (← c.other.view_is) at c.key_capacity.ensures.holds) at key h, made.keyed) in
    search (rules, room, keyed, made.sound)

pub returns-clause-counted : goal.returns-clause-counted
returns-clause-counted g c = rw (← c.other.view_is) (rw (c.in_ok-reserve.ensures.uncounted, c.in_ok-reserve.ensures.entries) at c.insert_all.ensures.counted)
