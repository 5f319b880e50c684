use Rattle.dary_heap.proofs.Common.{Option, Some, None, IfNone, refl, ◌≡◌, slice_get, slice_get_read}
use Rattle.indexed_heap.proofs.Placing.{no_place, no_entry_there, other_key}
use Rattle.indexed_heap.proofs.Sound.{sound}
use Rattle.indexed_heap.proofs.heap.IndexedHeap.place_of.Goals as goal

at_none : {A P : Type 0} (r : Option A) → P → IfNone r P
at_none None p = p
at_none (Some x) p = tt

pub returns-in_err-at-clause-none : goal.returns-in_err-at-clause-none
returns-in_err-at-clause-none g c = rw (← c.self.view_is) (at_none c.from_residual.result (no_place c.self.invariant c.args.key (rw c.deref.ensures.value at c.in_err-at.ensures.lookup.3)))

pub returns-in_err-get-clause-none : goal.returns-in_err-get-clause-none
returns-in_err-get-clause-none g c =
    let at = c.in_ok-at.field-0.now in
    let shown = c.in_ok-at.ensures.lookup in
    let is : slice_get c.deref.result.now c.args.key ≡ Some at = slice_get_read c.deref.result.now _ c.args.key _ refl shown.3.0 shown.1 in
    rw (← c.self.view_is) (at_none c.from_residual-in_err-get.result (no_entry_there c.self.invariant c.args.key at (rw c.deref.ensures.value at is)
    (rw c.as_slice-entries.ensures.items at c.in_err-get.ensures.lookup.3)))

pub returns-then-branch-key-clause-found : goal.returns-then-branch-key-clause-found
returns-then-branch-key-clause-found g c =
    let at = c.in_ok-at.field-0.now in
    let held = c.in_ok-get.ensures.lookup in
    let there : slice_get c.as_slice-entries.result.now at ≡ Some c.in_ok-get.field-0.now = slice_get_read c.as_slice-entries.result.now _ at _ refl held.3.0 held.1 in
    rw (← c.self.view_is) (record { entry = c.in_ok-get.field-0.now; there = rw c.as_slice-entries.ensures.items at there; has = c.if-branch-key.true })

pub returns-else-branch-key-clause-none : goal.returns-else-branch-key-clause-none
returns-else-branch-key-clause-none g c =
    let at = c.in_ok-at.field-0.now in
    let shown = c.in_ok-at.ensures.lookup in let held = c.in_ok-get.ensures.lookup in
    let is : slice_get c.deref.result.now c.args.key ≡ Some at = slice_get_read c.deref.result.now _ c.args.key _ refl shown.3.0 shown.1 in
    let there : slice_get c.as_slice-entries.result.now at ≡ Some c.in_ok-get.field-0.now = slice_get_read c.as_slice-entries.result.now _ at _ refl held.3.0 held.1 in
    rw (← c.self.view_is) (other_key c.self.invariant c.args.key at c.in_ok-get.field-0.now (rw c.deref.ensures.value at is) (rw c.as_slice-entries.ensures.items at there) c.if-branch-key.false)

pub returns-in_err-at-clause-sound : goal.returns-in_err-at-clause-sound
returns-in_err-at-clause-sound g c = rw (← c.self.view_is) (sound g.row.D c.self.inside.entries.items c.self.inside.places.items c.as_slice-entries.ensures.ordered c.self.invariant)

pub returns-in_err-get-clause-sound : goal.returns-in_err-get-clause-sound
returns-in_err-get-clause-sound g c = rw (← c.self.view_is) (sound g.row.D c.self.inside.entries.items c.self.inside.places.items c.as_slice-entries.ensures.ordered c.self.invariant)

pub returns-then-branch-key-clause-sound : goal.returns-then-branch-key-clause-sound
returns-then-branch-key-clause-sound g c = rw (← c.self.view_is) (sound g.row.D c.self.inside.entries.items c.self.inside.places.items c.as_slice-entries.ensures.ordered c.self.invariant)

pub returns-else-branch-key-clause-sound : goal.returns-else-branch-key-clause-sound
returns-else-branch-key-clause-sound g c = rw (← c.self.view_is) (sound g.row.D c.self.inside.entries.items c.self.inside.places.items c.as_slice-entries.ensures.ordered c.self.invariant)
