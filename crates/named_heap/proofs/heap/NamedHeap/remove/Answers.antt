use Rattle.std.proofs.Common.{◌∷◌, arith, rules, sym, ◌∙◌}
use Rattle.dary_heap.proofs.Common.{length_permutation}
use Rattle.named_heap.proofs.Callers.{taken_gone, taken_others}
use Rattle.named_heap.proofs.Freeing.{gone_bag, gone_but}
use Rattle.named_heap.proofs.Naming.{found_passes, length_of, lookup_found, lookup_missing, sound_of}
use Rattle.named_heap.specs.Names.{named}
use Rattle.named_heap.proofs.heap.NamedHeap.remove.Goals as goal

pub returns-in_err-key-clause-given : goal.returns-in_err-key-clause-given
returns-in_err-key-clause-given g c =
    rw c.from_residual.ensures (rw (← c.self.view_is) (sym (lookup_missing c.self.inside.names.keys c.self.inside.heap.entries c.self.invariant g.met.K.Eq.laws
    (g.Q.Equivalent.equivalent c.args.name) (sym c.in_err-key.ensures.found))))

pub returns-in_err-key-clause-sound : goal.returns-in_err-key-clause-sound
returns-in_err-key-clause-sound g c = rw (← c.self.view_is) (sound_of c.self.inside.names.keys c.self.inside.heap.entries c.self.invariant g.met.K.Eq.laws)

pub free-requires : goal.free-requires
free-requires g c =
    let but = gone_but c.self.inside.names.keys c.self.inside.heap.entries c.remove.new.self.entries c.in_ok-key.key c.in-Some.item c.in-Some.ensures.loses.bag c.self.invariant
    c.in_ok-key.ensures.within c.remove.ensures.gone c.remove.ensures.sound in
    search (rules, but)

pub returns-clause-given : goal.returns-clause-given
returns-clause-given g c =
    let found = lookup_found c.self.inside.names.keys c.self.inside.heap.entries c.self.invariant g.met.K.Eq.laws (g.Q.Equivalent.equivalent c.args.name)
    (g.met.Q.Equivalent.respects_eq c.args.name) c.in_ok-key.key (sym c.in_ok-key.ensures.index) in
    rw (← c.self.view_is) (c.in-Some.ensures.given ∙ sym found)

pub returns-clause-named : goal.returns-clause-named
returns-clause-named g c = found_passes (g.Q.Equivalent.equivalent c.args.name) c.self.inside.names.keys c.in_ok-key.key (sym c.in_ok-key.ensures.index) c.free.result c.free.ensures.name

pub returns-clause-bag : goal.returns-clause-bag
returns-clause-bag g c =
    let bag = gone_bag c.self.inside.names.keys c.self.inside.heap.entries c.remove.new.self.entries c.in_ok-key.key c.in-Some.item c.in-Some.ensures.loses.bag c.free.result c.free.ensures.name in
    rw (← c.self.view_is) (rw c.free.ensures.entries bag)

pub returns-clause-counted : goal.returns-clause-counted
returns-clause-counted g c =
    let long = length_of c.self.inside.names.keys c.self.inside.heap.entries c.self.invariant in
    rw (← c.self.view_is) (rw c.free.ensures.uncounted (rw long c.remove.ensures.counted))

pub returns-clause-sound : goal.returns-clause-sound
returns-clause-sound g c = sound_of c.free.new.names.keys c.free.new.heap.entries c.free.ensures.are_named g.met.K.Eq.laws

pub returns-clause-room : goal.returns-clause-room
returns-clause-room g c =
    let less = length_permutation c.self.inside.heap.entries ((c.in_ok-key.key, c.in-Some.item) ∷ c.remove.new.self.entries) c.in-Some.ensures.loses.bag in
    let spare = c.free.ensures.spare in let capacity = c.free.ensures.capacity in let keys = c.free.ensures.keys in let len = c.free.ensures.len in let entries = c.free.ensures.entries_len in
    let capacity_before = c.remove.ensures.capacity in let keys_before = c.remove.ensures.keys in
    rw (← c.self.view_is) (omega (arith, less, spare, capacity, keys, len, entries, capacity_before, keys_before))

pub returns-in_err-key-clause-gone : goal.returns-in_err-key-clause-gone
returns-in_err-key-clause-gone g c =
    rw (← c.self.view_is) (lookup_missing c.self.inside.names.keys c.self.inside.heap.entries c.self.invariant g.met.K.Eq.laws (g.Q.Equivalent.equivalent c.args.name) (sym c.in_err-key.ensures.found))

pub returns-clause-gone : goal.returns-clause-gone
returns-clause-gone g c =
    let before = sound_of c.self.inside.names.keys c.self.inside.heap.entries c.self.invariant g.met.K.Eq.laws in
    taken_gone g.met.K.Eq.laws c.args.self.now.entries (named c.free.new.names.keys c.free.new.heap.entries) (c.free.result, c.in-Some.item) (returns-clause-bag g c)
    (rw (← c.self.view_is) before.distinct)
    (g.Q.Equivalent.equivalent c.args.name) (g.met.Q.Equivalent.respects_eq c.args.name) (returns-clause-named g c)

pub returns-clause-others : goal.returns-clause-others
returns-clause-others g c = λ other apart.
    let before = sound_of c.self.inside.names.keys c.self.inside.heap.entries c.self.invariant g.met.K.Eq.laws in
    let not_it = sym (g.met.Q.Equivalent.respects_eq c.args.name c.free.result other (returns-clause-named g c)) ∙ apart in
    taken_others g.met.K.Eq.laws c.args.self.now.entries (named c.free.new.names.keys c.free.new.heap.entries) (c.free.result, c.in-Some.item) (returns-clause-bag g c)
    (rw (← c.self.view_is) before.distinct) other not_it

pub returns-clause-len : goal.returns-clause-len
returns-clause-len g c =
    let before = length_of c.self.inside.names.keys c.self.inside.heap.entries c.self.invariant in
    let after = length_of c.free.new.names.keys c.free.new.heap.entries c.free.ensures.are_named in
    let less = length_permutation c.self.inside.heap.entries ((c.in_ok-key.key, c.in-Some.item) ∷ c.remove.new.self.entries) c.in-Some.ensures.loses.bag in
    rw (← c.self.view_is) (omega (arith, before, after, less, c.free.ensures.entries_len))
