use Rattle.std.proofs.Common.{◌<◌, arith, length, refl, rules, sym}
use Rattle.named_heap.proofs.Callers.{taken_gone}
use Rattle.named_heap.proofs.Freeing.{gone_bag, gone_but}
use Rattle.named_heap.proofs.Naming.{greatest_named, keyed_of, length_of, named_there, sound_of}
use Rattle.named_heap.specs.Names.{named}
use Rattle.named_heap.proofs.heap.NamedHeap.pop.Goals as goal

pub returns-in_err-key-clause-sound : goal.returns-in_err-key-clause-sound
returns-in_err-key-clause-sound g c = rw c.in_err-key.ensures.unchanged (sound_of c.self.inside.names.keys c.self.inside.heap.entries c.self.invariant g.met.K.Eq.laws)

pub free-requires : goal.free-requires
free-requires g c =
    let names = c.self.inside.names.keys in let old = c.self.inside.heap.entries in let key = c.in_ok-key.key in let item = c.in_ok-key.item in
    let inside = keyed_of names old c.self.invariant 0 (key, item) (sym c.in_ok-key.ensures.first) in
    let but = gone_but names old c.pop.new.self.entries key item c.in_ok-key.ensures.bag c.self.invariant inside c.in_ok-key.ensures.gone c.pop.ensures.sound in
    search (rules, but)

pub returns-clause-variant : goal.returns-clause-variant
returns-clause-variant g c =
    let long = length_of c.self.inside.names.keys c.self.inside.heap.entries c.self.invariant in
    let some : 0 < length c.self.inside.heap.entries = c.in_ok-key.ensures.variant.0 refl in
    rw (← c.self.view_is) (λ _. omega (arith, long, some), λ _. refl)

pub returns-clause-first : goal.returns-clause-first
returns-clause-first g c =
    let names = c.self.inside.names.keys in let old = c.self.inside.heap.entries in
    rw (← c.self.view_is) (sym (named_there names old (keyed_of names old c.self.invariant) 0 (c.in_ok-key.key, c.in_ok-key.item) c.free.result (sym c.in_ok-key.ensures.first) c.free.ensures.name))

pub returns-clause-greatest : goal.returns-clause-greatest
returns-clause-greatest g c =
    let sound = sound_of c.self.inside.names.keys c.self.inside.heap.entries c.self.invariant g.met.K.Eq.laws in
    greatest_named {eq = g.K.PartialEq.eq} g.met.J.Judge.total g.row.D c.args.self.now.entries (c.free.result, c.in_ok-key.item) (rw (← c.self.view_is) sound) (sym (returns-clause-first g c))

pub returns-clause-bag : goal.returns-clause-bag
returns-clause-bag g c =
    let bag = gone_bag c.self.inside.names.keys c.self.inside.heap.entries c.pop.new.self.entries c.in_ok-key.key c.in_ok-key.item c.in_ok-key.ensures.bag c.free.result c.free.ensures.name in
    rw (← c.self.view_is) (rw c.free.ensures.entries bag)

pub returns-clause-counted : goal.returns-clause-counted
returns-clause-counted g c =
    let long = length_of c.self.inside.names.keys c.self.inside.heap.entries c.self.invariant in
    rw (← c.self.view_is) (rw c.free.ensures.uncounted (rw long c.pop.ensures.counted))

pub returns-clause-sound : goal.returns-clause-sound
returns-clause-sound g c = sound_of c.free.new.names.keys c.free.new.heap.entries c.free.ensures.are_named g.met.K.Eq.laws

pub returns-clause-gone : goal.returns-clause-gone
returns-clause-gone g c =
    let before = sound_of c.self.inside.names.keys c.self.inside.heap.entries c.self.invariant g.met.K.Eq.laws in
    taken_gone g.met.K.Eq.laws c.args.self.now.entries (named c.free.new.names.keys c.free.new.heap.entries) (c.free.result, c.in_ok-key.item) (returns-clause-bag g c)
    (rw (← c.self.view_is) before.distinct)
    (g.K.PartialEq.eq c.free.result) (g.met.K.Eq.laws.congr c.free.result) (g.met.K.Eq.laws.refl c.free.result)

pub returns-clause-len : goal.returns-clause-len
returns-clause-len g c =
    let before = length_of c.self.inside.names.keys c.self.inside.heap.entries c.self.invariant in
    let after = length_of c.free.new.names.keys c.free.new.heap.entries c.free.ensures.are_named in
    let some : 0 < length c.self.inside.heap.entries = c.in_ok-key.ensures.variant.0 refl in
    rw (← c.self.view_is) (omega (arith, before, after, some, c.pop.ensures.len, c.free.ensures.entries_len))
