use Rattle.dary_heap.proofs.Common.{ℕ, slice_get_within, rules, ap, ◌∙◌}
use Rattle.indexed_heap.specs.Entries.{IsEntry}
use Rattle.indexed_heap.proofs.AsMap.{item_of-has}
use Rattle.indexed_heap.proofs.Changing.{inserts_held}
use Rattle.indexed_heap.proofs.Sound.{holds, sound}
use Rattle.indexed_heap.proofs.Updating.{updated_gets, updated_moved}
use Rattle.indexed_heap.proofs.heap.IndexedHeap.update.Goals as goal

pub update_at_returning_place-stop-requires : goal.update_at_returning_place-stop-requires
update_at_returning_place-stop-requires g c =
    let xs = c.self.inside.entries.items in let at = c.in-Some.at in
    let found : IsEntry xs at c.args.key = rw (← c.self.view_is) at c.in-Some.ensures.found in
    let asks = rw (← c.self.view_is) at c.requires in
    let once = (rw (← c.self.view_is) at c.in-Some.ensures.sound).distinct in (
      search rules,
      (
        slice_get_within xs at found.entry found.there,
        λ held there shown is item same. asks held.1 (item_of-has c.args.key xs held.1 once (holds xs at c.args.key held found there)) item (same ∙ ap (λ (e : ℕ × g.row.T.Denot). e.1) is),
      ),
    )

pub write_moved-requires : goal.write_moved-requires
write_moved-requires g c =
    let changed = c.update_at_returning_place-stop in let updated = changed.ensures.updated in
    rw (c.as_slice.ensures.items, c.as_mut_slice.ensures.value)
    (updated_moved g.row.D c.in-Some.at changed.result c.self.inside.entries.items changed.new.self.items c.args.key (rw (← c.self.view_is) at c.in-Some.ensures.found) changed.ensures.within updated
    (rw (updated.called.shows, updated.called.leaves) at updated.called.met.0) c.self.inside.places.items c.self.invariant)

pub returns-clause-updates : goal.returns-clause-updates
returns-clause-updates g c =
    let xs = c.self.inside.entries.items in let at = c.in-Some.at in
    let changed = c.update_at_returning_place-stop in let updated = changed.ensures.updated in
    let found : IsEntry xs at c.args.key = rw (← c.self.view_is) at c.in-Some.ensures.found in
    let once = (rw (← c.self.view_is) at c.in-Some.ensures.sound).distinct in
    rw (← c.self.view_is) record {
      held = updated.held.1;
      left = updated.left.1;
      was = item_of-has c.args.key xs updated.held.1 once (holds xs at c.args.key updated.held found updated.was);
      called = rw (updated.called.shows, updated.called.leaves) at updated.called.met.1;
      gets = updated_gets g.row.D at changed.result xs changed.new.self.items c.args.key found changed.ensures.within updated (rw (updated.called.shows, updated.called.leaves) at updated.called.met.0);
    }

pub returns-clause-len : goal.returns-clause-len
returns-clause-len g c = rw (← c.self.view_is) c.update_at_returning_place-stop.ensures.len

pub returns-clause-counted : goal.returns-clause-counted
returns-clause-counted g c =
    (inserts_held g.row.D c.args.key c.args.self.now.entries c.in-Some.ensures.sound.distinct c.in-Some.at c.in-Some.ensures.found _ _
    (rw (← c.self.view_is) c.update_at_returning_place-stop.ensures.counted)).held

pub returns-clause-sound : goal.returns-clause-sound
returns-clause-sound g c =
    sound g.row.D c.update_at_returning_place-stop.new.self.items c.write_moved.new.places c.update_at_returning_place-stop.ensures.ordered (rw c.as_slice.ensures.items at c.write_moved.ensures)
