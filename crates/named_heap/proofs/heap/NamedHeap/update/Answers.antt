use Rattle.std.proofs.Common.{◌≡◌, rules, sym, ◌∙◌, true, Some}
use Rattle.std.specs.Fn.{FnOnceReturnsAtMut}
use Rattle.indexed_heap.specs.Entries as idx
use Rattle.indexed_heap.specs.Entries.{item_of}
use Rattle.named_heap.proofs.Changing.{change_named, changed, changed_others, changed_within, had, is_found}
use Rattle.named_heap.proofs.Naming.{lookup_missing, sound_of}
use Rattle.named_heap.proofs.heap.NamedHeap.update.Goals.{After-update}
use Rattle.named_heap.proofs.heap.NamedHeap.update.Given.{Over}
use Rattle.named_heap.proofs.heap.NamedHeap.update.Goals as goal

pub returns-in_default-clause-absent : goal.returns-in_default-clause-absent
returns-in_default-clause-absent g c =
    rw (← c.self.view_is) (lookup_missing c.self.inside.names.keys c.self.inside.heap.entries c.self.invariant g.met.K.Eq.laws (g.Q.Equivalent.equivalent c.args.name)
    (sym c.in_default.ensures.found))

pub returns-in_default-clause-sound : goal.returns-in_default-clause-sound
returns-in_default-clause-sound g c = rw (← c.self.view_is) (sound_of c.self.inside.names.keys c.self.inside.heap.entries c.self.invariant g.met.K.Eq.laws)

pub update-requires : goal.update-requires
update-requires g c =
    let has = had g.met.K.Eq.laws (g.Q.Equivalent.equivalent c.args.name) (g.met.Q.Equivalent.respects_eq c.args.name) c.self.inside.names.keys c.self.inside.heap.entries c.self.invariant
    c.in-Some.key (sym c.in-Some.ensures.index) in
    let may = λ (item : g.row.T.Denot) (is : item_of c.in-Some.key c.self.inside.heap.entries ≡ Some item). c.requires item (rw (← c.self.view_is) (has ∙ is)) in
    search (rules, may)

-- the item that the name had, and what the function left
record IsMade (g : Over) (c : After-update g) : Type 0 where
  is : c.update.result ≡ true
  held : g.row.T.Denot
  left : g.row.T.Denot
  was : item_of c.in-Some.key c.self.inside.heap.entries ≡ Some held
  called : FnOnceReturnsAtMut g.F.FnOnce c.args.f held tt left
  gets : idx.Gets c.in-Some.key left c.self.inside.heap.entries (Some held) c.update.new.self.entries

made : (g : Over) (c : After-update g) → IsMade g c
made g c =
    let is : c.update.result ≡ true =
    is_found g.met.K.Eq.laws (g.Q.Equivalent.equivalent c.args.name) (g.met.Q.Equivalent.respects_eq c.args.name) c.self.inside.names.keys c.self.inside.heap.entries c.self.invariant
    c.in-Some.key (sym c.in-Some.ensures.index) c.update.result c.update.ensures.absent in
    let told = rw is at c.update.ensures.updates in
    record { is = is; held = told.held; left = told.left; was = told.was; called = told.called; gets = told.gets }

pub invariant_of-self : goal.invariant_of-self
invariant_of-self g c =
    let m = made g (goal.at.invariant_of-self g c).After-update in
    change_named g.met.K.Eq.laws (g.Q.Equivalent.equivalent c.args.name) (g.met.Q.Equivalent.respects_eq c.args.name) c.self.inside.names.keys c.self.inside.heap.entries c.self.invariant
    c.in-Some.key (sym c.in-Some.ensures.index) m.left c.update.new.self.entries c.update.ensures.sound (Some m.held) m.gets

pub returns-clause-updates : goal.returns-clause-updates
returns-clause-updates g c =
    let m = made g (goal.at.returns-clause-updates g c).After-update in
    let has = had g.met.K.Eq.laws (g.Q.Equivalent.equivalent c.args.name) (g.met.Q.Equivalent.respects_eq c.args.name) c.self.inside.names.keys c.self.inside.heap.entries c.self.invariant
    c.in-Some.key (sym c.in-Some.ensures.index) in
    let changes = changed g.met.K.Eq.laws (g.Q.Equivalent.equivalent c.args.name) (g.met.Q.Equivalent.respects_eq c.args.name) c.self.inside.names.keys c.self.inside.heap.entries c.self.invariant
    c.in-Some.key (sym c.in-Some.ensures.index) m.left c.update.new.self.entries c.update.ensures.sound m.held m.gets in
    rw (← c.self.view_is) (rw m.is (record { held = m.held; left = m.left; was = has ∙ m.was; called = m.called; changes = changes }))

pub returns-clause-absent : goal.returns-clause-absent
returns-clause-absent g c = rw (made g (goal.at.returns-clause-absent g c).After-update).is tt

pub returns-clause-unchanged : goal.returns-clause-unchanged
returns-clause-unchanged g c = rw (made g (goal.at.returns-clause-unchanged g c).After-update).is tt

pub returns-clause-others : goal.returns-clause-others
returns-clause-others g c =
    let m = made g (goal.at.returns-clause-others g c).After-update in
    let others = changed_others g.met.K.Eq.laws (g.Q.Equivalent.equivalent c.args.name)
    (g.met.Q.Equivalent.respects_eq c.args.name) c.self.inside.names.keys c.self.inside.heap.entries c.self.invariant
    c.in-Some.key (sym c.in-Some.ensures.index) m.left c.update.new.self.entries c.update.ensures.sound (Some m.held) m.gets (sym m.was) in
    rw (← c.self.view_is) others

pub returns-clause-counted : goal.returns-clause-counted
returns-clause-counted g c =
    let within = changed_within g.met.K.Eq.laws (g.Q.Equivalent.equivalent c.args.name)
    (g.met.Q.Equivalent.respects_eq c.args.name) c.self.inside.names.keys c.self.inside.heap.entries c.self.invariant
    c.in-Some.key (sym c.in-Some.ensures.index) c.self.inside.heap.comparisons c.update.new.self.comparisons c.update.ensures.counted in
    rw (← c.self.view_is) within

pub returns-clause-sound : goal.returns-clause-sound
returns-clause-sound g c = sound_of c.self.inside.names.keys c.update.new.self.entries (invariant_of-self g c) g.met.K.Eq.laws
