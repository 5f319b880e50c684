use Rattle.dary_heap.proofs.Common.{◌<◌, ◌≤◌, ◌-◌, length, arith}
use Rattle.indexed_heap.proofs.Bounding.{within_pop}
use Rattle.indexed_heap.proofs.Placing.{has_place}
use Rattle.indexed_heap.proofs.Removing.{left_len, left_moved, left_right, no_more}
use Rattle.indexed_heap.proofs.Sound.{sound}
use Rattle.indexed_heap.proofs.heap.IndexedHeap.take_out.Goals as goal

-- it was the last
pub invariant_of-self : goal.invariant_of-self
invariant_of-self g c =
    let xs = c.self.inside.entries.items in let places = c.self.inside.places.items in let taken = c.remove_at_returning_place-entry in
    let past : length taken.new.self.items ≤ c.args.at = omega (arith, c.if-len-at.true, c.len.ensures.len) in
    rw (taken.ensures.last past).0 (left_right xs places c.args.at taken.result.0 taken.ensures.item c.self.invariant
    (omega (arith, past, left_len xs places c.args.at taken.result.0 taken.ensures.item, taken.ensures.len)))

pub returns-then-len-at-clause-gone : goal.returns-then-len-at-clause-gone
returns-then-len-at-clause-gone g c =
    let taken = c.remove_at_returning_place-entry in
    no_more c.self.inside.entries.items taken.new.self.items c.self.inside.places.items taken.result.0 c.self.invariant taken.ensures.bag

pub returns-then-len-at-clause-sound : goal.returns-then-len-at-clause-sound
returns-then-len-at-clause-sound g c =
    sound g.row.D c.remove_at_returning_place-entry.new.self.items c.self.inside.places.items c.remove_at_returning_place-entry.ensures.ordered (invariant_of-self g c)

pub returns-then-len-at-clause-keyed : goal.returns-then-len-at-clause-keyed
returns-then-len-at-clause-keyed g c =
    let taken = c.remove_at_returning_place-entry in
    omega (arith, has_place c.self.invariant c.args.at taken.result.0 taken.ensures.item, c.self.inside.places.ok.0)

pub write_moved-requires : goal.write_moved-requires
write_moved-requires g c =
    let xs = c.self.inside.entries.items in let places = c.self.inside.places.items in let taken = c.remove_at_returning_place-entry in
    let inside : c.args.at < length taken.new.self.items = omega (arith, c.if-len-at.false, c.len.ensures.len) in
    rw (c.as_slice.ensures.items, c.as_mut_slice.ensures.value) (left_moved xs places c.args.at taken.result.0 taken.ensures.item c.self.invariant g.row.D taken.result.1 taken.new.self.items
    (omega (arith, inside, left_len xs places c.args.at taken.result.0 taken.ensures.item, taken.ensures.len)) (taken.ensures.within inside) taken.ensures.path)

pub returns-clause-gone : goal.returns-clause-gone
returns-clause-gone g c =
    let taken = c.remove_at_returning_place-entry in
    no_more c.self.inside.entries.items taken.new.self.items c.self.inside.places.items taken.result.0 c.self.invariant taken.ensures.bag

pub returns-clause-bag : goal.returns-clause-bag
returns-clause-bag g c = rw (← c.self.view_is) c.remove_at_returning_place-entry.ensures.bag

pub returns-clause-sound : goal.returns-clause-sound
returns-clause-sound g c =
    sound g.row.D c.remove_at_returning_place-entry.new.self.items c.write_moved.new.places c.remove_at_returning_place-entry.ensures.ordered (rw c.as_slice.ensures.items at c.write_moved.ensures)

pub returns-clause-counted : goal.returns-clause-counted
returns-clause-counted g c =
    let xs = c.self.inside.entries.items in let n = length xs in let taken = c.remove_at_returning_place-entry in
    let inside : c.args.at < n = rw (← c.self.view_is) at c.requires in
    rw (← c.self.view_is) (within_pop g.row.D c.args.at _ _ (n - 1) n (omega (arith, inside)) (omega (arith, c.if-len-at.false, c.len.ensures.len, taken.ensures.len)) taken.ensures.counted)

pub returns-clause-keyed : goal.returns-clause-keyed
returns-clause-keyed g c =
    let taken = c.remove_at_returning_place-entry in
    omega (arith, has_place c.self.invariant c.args.at taken.result.0 taken.ensures.item, c.self.inside.places.ok.0)
