use Rattle.std.proofs.Common.{◌≡◌, rules, sym, ◌∙◌, Some}
use Rattle.std.specs.Fn.{FnOnceReturnsAt}
use Rattle.indexed_heap.specs.Entries as idx
use Rattle.indexed_heap.specs.Entries.{item_of}
use Rattle.named_heap.proofs.Changing.{change_named, changed, changed_others, changed_within, had, item_there}
use Rattle.named_heap.proofs.Naming.{lookup_missing, sound_of}
use Rattle.named_heap.proofs.heap.NamedHeap.change.Goals.{After-change}
use Rattle.named_heap.proofs.heap.NamedHeap.change.Given.{Over}
use Rattle.named_heap.proofs.heap.NamedHeap.change.Goals as goal

pub returns-in_default-clause-given : goal.returns-in_default-clause-given
returns-in_default-clause-given g c =
    rw (← c.self.view_is) (sym (lookup_missing c.self.inside.names.keys c.self.inside.heap.entries c.self.invariant g.met.K.Eq.laws (g.Q.Equivalent.equivalent c.args.name)
    (sym c.in_default.ensures.found)))

pub returns-in_default-clause-sound : goal.returns-in_default-clause-sound
returns-in_default-clause-sound g c = rw (← c.self.view_is) (sound_of c.self.inside.names.keys c.self.inside.heap.entries c.self.invariant g.met.K.Eq.laws)

pub change-requires : goal.change-requires
change-requires g c =
    let has = had g.met.K.Eq.laws (g.Q.Equivalent.equivalent c.args.name) (g.met.Q.Equivalent.respects_eq c.args.name) c.self.inside.names.keys c.self.inside.heap.entries c.self.invariant
    c.in-Some.key (sym c.in-Some.ensures.index) in
    let may = λ (item : g.row.T.Denot) (is : item_of c.in-Some.key c.self.inside.heap.entries ≡ Some item). c.requires item (rw (← c.self.view_is) (has ∙ is)) in
    search (rules, may)

-- the item that the name had, and what the function made of it
record IsMade (g : Over) (c : After-change g) : Type 0 where
  had_item : g.row.T.Denot
  is : c.change.result ≡ Some had_item
  item : g.row.T.Denot
  returned : FnOnceReturnsAt g.F.FnOnce c.args.f had_item item
  gets : idx.Gets c.in-Some.key item c.self.inside.heap.entries (Some had_item) c.change.new.self.entries

made : (g : Over) (c : After-change g) → IsMade g c
made g c =
    let there = item_there g.met.K.Eq.laws (g.Q.Equivalent.equivalent c.args.name) (g.met.Q.Equivalent.respects_eq c.args.name) c.self.inside.names.keys c.self.inside.heap.entries c.self.invariant
    c.in-Some.key (sym c.in-Some.ensures.index) in
    let is : c.change.result ≡ Some there.0 = c.change.ensures.given ∙ there.1 in
    let told = rw is at c.change.ensures.gets in
    record { had_item = there.0; is = is; item = told.0; returned = told.1; gets = told.2 }

pub invariant_of-self : goal.invariant_of-self
invariant_of-self g c =
    let m = made g (goal.at.invariant_of-self g c).After-change in
    change_named g.met.K.Eq.laws (g.Q.Equivalent.equivalent c.args.name) (g.met.Q.Equivalent.respects_eq c.args.name) c.self.inside.names.keys c.self.inside.heap.entries c.self.invariant
    c.in-Some.key (sym c.in-Some.ensures.index) m.item c.change.new.self.entries c.change.ensures.sound (Some m.had_item) m.gets

pub returns-clause-given : goal.returns-clause-given
returns-clause-given g c =
    let has = had g.met.K.Eq.laws (g.Q.Equivalent.equivalent c.args.name) (g.met.Q.Equivalent.respects_eq c.args.name) c.self.inside.names.keys c.self.inside.heap.entries c.self.invariant
    c.in-Some.key (sym c.in-Some.ensures.index) in
    rw (← c.self.view_is) (c.change.ensures.given ∙ sym has)

pub returns-clause-changes : goal.returns-clause-changes
returns-clause-changes g c =
    let m = made g (goal.at.returns-clause-changes g c).After-change in
    let changes = changed g.met.K.Eq.laws (g.Q.Equivalent.equivalent c.args.name) (g.met.Q.Equivalent.respects_eq c.args.name) c.self.inside.names.keys c.self.inside.heap.entries c.self.invariant
    c.in-Some.key (sym c.in-Some.ensures.index) m.item c.change.new.self.entries c.change.ensures.sound m.had_item m.gets in
    rw (← c.self.view_is) (rw m.is (m.item, m.returned, changes))

pub returns-clause-others : goal.returns-clause-others
returns-clause-others g c =
    let m = made g (goal.at.returns-clause-others g c).After-change in
    let others = changed_others g.met.K.Eq.laws (g.Q.Equivalent.equivalent c.args.name)
    (g.met.Q.Equivalent.respects_eq c.args.name) c.self.inside.names.keys c.self.inside.heap.entries c.self.invariant
    c.in-Some.key (sym c.in-Some.ensures.index) m.item c.change.new.self.entries c.change.ensures.sound (Some m.had_item) m.gets (sym m.is ∙ c.change.ensures.given) in
    rw (← c.self.view_is) others

pub returns-clause-counted : goal.returns-clause-counted
returns-clause-counted g c =
    let within = changed_within g.met.K.Eq.laws (g.Q.Equivalent.equivalent c.args.name)
    (g.met.Q.Equivalent.respects_eq c.args.name) c.self.inside.names.keys c.self.inside.heap.entries c.self.invariant
    c.in-Some.key (sym c.in-Some.ensures.index) c.self.inside.heap.comparisons c.change.new.self.comparisons c.change.ensures.counted in
    rw (← c.self.view_is) within

pub returns-clause-sound : goal.returns-clause-sound
returns-clause-sound g c = sound_of c.self.inside.names.keys c.change.new.self.entries (invariant_of-self g c) g.met.K.Eq.laws
