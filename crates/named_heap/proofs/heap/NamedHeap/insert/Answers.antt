use Rattle.dary_heap.proofs.Common.{◌≡◌, ◌+◌, ℕ, List, Option, ap, arith, if◌then◌else◌, is_some, length, sym, ◌∙◌, true≢false}
use Rattle.indexed_heap.specs.Entries.{item_of}
use Rattle.named_heap.proofs.Callers.{Gets-here, Gets-others}
use Rattle.named_heap.proofs.Naming.{length_of, sound_of}
use Rattle.named_heap.proofs.Numbering.{gets_named, has_room, lookup_key, named_gets, named_within, not_numbered, numbered_stores}
use Rattle.named_heap.specs.Names.{named}
use Rattle.named_heap.proofs.heap.NamedHeap.insert.Goals as goal

pub returns-in-Err-clause-sound : goal.returns-in-Err-clause-sound
returns-in-Err-clause-sound g c =
    rw (c.in-Err.ensures.unchanged, c.number.ensures.entries) (sound_of c.self.inside.names.keys c.self.inside.heap.entries c.self.invariant g.met.K.Eq.laws)

pub returns-in-Err-clause-stores : goal.returns-in-Err-clause-stores
returns-in-Err-clause-stores g c =
    let n = c.number.ensures in let refused = c.in-Err.ensures in
    let stores = not_numbered g.met.K.Eq.laws c.args.name c.args.item c.self.inside.names c.number.new.names c.self.inside.heap c.number.new.heap c.self.invariant n.spare n.capacity n.keys n.entries
    _ refused.returned refused.absent refused.succeeds refused.unchanged n.uncounted in
    rw (← c.self.view_is) stores

pub unreachable-requires : goal.unreachable-requires
unreachable-requires g c = has_room g.met.K.Eq.laws c.args.name c.in-Ok.key c.self.inside.names.keys c.number.new.names.keys c.in-Ok.ensures.numbers c.self.inside.heap.entries c.self.invariant
    c.number.new.heap c.number.ensures.entries c.in-Ok.ensures.room (λ at there. absurd (true≢false (sym (c.in-Err-insert.ensures.stores.present at there)))) (λ few low. absurd (true≢false (sym
    (c.in-Err-insert.ensures.stores.succeeds few low))))

pub invariant_of-self-2 : goal.invariant_of-self-2
invariant_of-self-2 g c = gets_named g.met.K.Eq.laws c.args.name c.in-Ok.key c.self.inside.names.keys c.number.new.names.keys c.in-Ok.ensures.numbers c.self.inside.heap.entries c.self.invariant
    c.number.ensures.unique c.args.item c.insert.new.self.entries c.in-Ok-insert.given c.insert.ensures.sound (rw c.number.ensures.entries at c.in-Ok-insert.ensures.gets)

pub returns-clause-gets : goal.returns-clause-gets
returns-clause-gets g c =
    let are = invariant_of-self-2 g c in
    let gets = named_gets g.met.K.Eq.laws c.args.name c.in-Ok.key c.self.inside.names.keys c.number.new.names.keys c.in-Ok.ensures.numbers c.self.inside.heap.entries c.self.invariant
    c.args.item c.insert.new.self.entries are.bare c.in-Ok-insert.given (rw c.number.ensures.entries at c.in-Ok-insert.ensures.gets) (rw c.number.ensures.entries at c.in-Ok-insert.ensures.given) in
    rw (← c.self.view_is) gets

pub returns-clause-given : goal.returns-clause-given
returns-clause-given g c =
    let given : c.in-Ok-insert.given ≡ item_of c.in-Ok.key c.self.inside.heap.entries = rw c.number.ensures.entries at c.in-Ok-insert.ensures.given in
    rw (← c.self.view_is) (given ∙ sym (lookup_key g.met.K.Eq.laws c.args.name c.in-Ok.key c.self.inside.names.keys c.number.new.names.keys c.in-Ok.ensures.numbers c.self.inside.heap.entries
    c.self.invariant))

pub returns-clause-counted : goal.returns-clause-counted
returns-clause-counted g c =
    let within = named_within g.met.K.Eq.laws c.args.name c.in-Ok.key c.self.inside.names.keys c.number.new.names.keys c.in-Ok.ensures.numbers c.self.inside.heap.entries c.self.invariant
    c.self.inside.heap.comparisons c.insert.new.self.comparisons (rw (c.number.ensures.entries, c.number.ensures.uncounted) at c.in-Ok-insert.ensures.counted) in
    rw (← c.self.view_is) within

pub returns-clause-stores : goal.returns-clause-stores
returns-clause-stores g c =
    let n = c.number.ensures in let put = c.in-Ok-insert.ensures in
    let len = put.len ∙ ap (λ (o : Option g.row.T.Denot). length c.number.new.heap.entries + (if is_some o then 0 else 1)) put.given in
    let stores = numbered_stores g.met.K.Eq.laws c.args.name c.args.item c.self.inside.names c.number.new.names c.self.inside.heap c.number.new.heap c.self.invariant n.spare n.capacity n.keys
    n.entries c.in-Ok.key c.in-Ok.ensures.numbers c.insert.new.self n.kept len put.stores.capacity put.stores.keys put.stores.roomy put.stores.widened c.in-Ok-insert.given in
    rw (← c.self.view_is) stores

pub returns-clause-sound : goal.returns-clause-sound
returns-clause-sound g c = sound_of c.number.new.names.keys c.insert.new.self.entries (invariant_of-self-2 g c) g.met.K.Eq.laws

pub returns-clause-here : goal.returns-clause-here
returns-clause-here g c =
    Gets-here g.met.K.Eq.laws c.args.name c.args.item c.args.self.now.entries c.in-Ok-insert.given (named c.number.new.names.keys c.insert.new.self.entries) (returns-clause-gets g c)
    (returns-clause-sound g c).distinct

pub returns-clause-others : goal.returns-clause-others
returns-clause-others g c = λ other apart.
    let before = sound_of c.self.inside.names.keys c.self.inside.heap.entries c.self.invariant g.met.K.Eq.laws in
    Gets-others g.met.K.Eq.laws c.args.name c.args.item c.args.self.now.entries c.in-Ok-insert.given (named c.number.new.names.keys c.insert.new.self.entries)
    (returns-clause-gets g c) (returns-clause-sound g c).distinct
    (rw (← c.self.view_is) before.distinct) other apart

pub returns-clause-len : goal.returns-clause-len
returns-clause-len g c =
    let before = length_of c.self.inside.names.keys c.self.inside.heap.entries c.self.invariant in
    let after = length_of c.number.new.names.keys c.insert.new.self.entries (invariant_of-self-2 g c) in
    let same = ap (λ (l : List (ℕ × g.row.T.Denot)). length l) c.number.ensures.entries in
    rw (← c.self.view_is) (omega (arith, before, after, same, c.in-Ok-insert.ensures.len))
