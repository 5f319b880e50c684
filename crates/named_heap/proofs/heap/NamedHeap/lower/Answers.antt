use Rattle.dary_heap.proofs.Common.{arith, sym, true≢false}
use Rattle.std.specs.Ordering.{flip_args}
use Rattle.named_heap.proofs.Naming.{length_of, sound_of}
use Rattle.named_heap.proofs.Numbering.{has_room, lookup_key, not_numbered, numbered_stores, raise_named, raised_named, reached_named}
use Rattle.named_heap.proofs.heap.NamedHeap.lower.Goals as goal

pub returns-in-Err-clause-sound : goal.returns-in-Err-clause-sound
returns-in-Err-clause-sound g c =
    rw (c.in-Err.ensures.unchanged, c.number.ensures.entries) (sound_of c.self.inside.names.keys c.self.inside.heap.entries c.self.invariant g.met.K.Eq.laws)

pub returns-in-Err-clause-stores : goal.returns-in-Err-clause-stores
returns-in-Err-clause-stores g c =
    let n = c.number.ensures in let refused = c.in-Err.ensures in
    let stores = not_numbered g.met.K.Eq.laws c.args.name c.args.item c.self.inside.names c.number.new.names c.self.inside.heap c.number.new.heap c.self.invariant n.spare n.capacity n.keys n.entries
    _ refused.returned refused.absent refused.succeeds refused.unchanged n.uncounted in
    rw (← c.self.view_is) stores

pub unreachable-requires : goal.unreachable-requires
unreachable-requires g c = has_room g.met.K.Eq.laws c.args.name c.in-Ok.key c.self.inside.names.keys c.number.new.names.keys c.in-Ok.ensures.numbers c.self.inside.heap.entries c.self.invariant
    c.number.new.heap c.number.ensures.entries c.in-Ok.ensures.room (λ at there. absurd (true≢false (sym (c.in-Err-lower.ensures.stores.present at there)))) (λ few low. absurd (true≢false (sym
    (c.in-Err-lower.ensures.stores.succeeds few low))))

pub invariant_of-self-2 : goal.invariant_of-self-2
invariant_of-self-2 g c = raise_named g.met.K.Eq.laws c.args.name c.in-Ok.key c.self.inside.names.keys c.number.new.names.keys c.in-Ok.ensures.numbers c.self.inside.heap.entries c.self.invariant
    (flip_args g.J.Judge.order) c.args.item c.lower.new.self.entries c.in-Ok-lower.lowered (rw c.number.ensures.entries at c.in-Ok-lower.ensures.lowered)
    (rw c.number.ensures.entries at c.in-Ok-lower.ensures.reached) c.lower.ensures.sound c.number.ensures.unique

pub returns-clause-lowered : goal.returns-clause-lowered
returns-clause-lowered g c =
    let lowered = raised_named g.met.K.Eq.laws c.args.name c.in-Ok.key c.self.inside.names.keys c.number.new.names.keys c.in-Ok.ensures.numbers c.self.inside.heap.entries c.self.invariant
    (flip_args g.J.Judge.order) c.args.item c.lower.new.self.entries c.in-Ok-lower.lowered (invariant_of-self-2 g c) (rw c.number.ensures.entries at c.in-Ok-lower.ensures.lowered) in
    rw (← c.self.view_is) lowered

pub returns-clause-reached : goal.returns-clause-reached
returns-clause-reached g c =
    let reached = reached_named g.met.K.Eq.laws c.args.name c.in-Ok.key c.self.inside.names.keys c.number.new.names.keys c.in-Ok.ensures.numbers c.self.inside.heap.entries c.self.invariant
    (flip_args g.J.Judge.order) c.args.item c.lower.new.self.entries c.in-Ok-lower.lowered (rw c.number.ensures.entries at c.in-Ok-lower.ensures.reached) in
    rw (← c.self.view_is) reached

pub returns-clause-counted : goal.returns-clause-counted
returns-clause-counted g c =
    let long = length_of c.self.inside.names.keys c.self.inside.heap.entries c.self.invariant in
    rw (← c.self.view_is) (rw long (rw (c.number.ensures.entries, c.number.ensures.uncounted) at c.in-Ok-lower.ensures.counted))

pub returns-clause-stores : goal.returns-clause-stores
returns-clause-stores g c =
    let n = c.number.ensures in let put = c.in-Ok-lower.ensures in
    let stores = numbered_stores g.met.K.Eq.laws c.args.name c.args.item c.self.inside.names c.number.new.names c.self.inside.heap c.number.new.heap c.self.invariant n.spare n.capacity n.keys
    n.entries c.in-Ok.key c.in-Ok.ensures.numbers c.lower.new.self n.kept put.len put.stores.capacity put.stores.keys put.stores.roomy put.stores.widened c.in-Ok-lower.lowered in
    rw (← c.self.view_is) stores

pub returns-clause-sound : goal.returns-clause-sound
returns-clause-sound g c = sound_of c.number.new.names.keys c.lower.new.self.entries (invariant_of-self-2 g c) g.met.K.Eq.laws

pub returns-clause-len : goal.returns-clause-len
returns-clause-len g c =
    let before = length_of c.self.inside.names.keys c.self.inside.heap.entries c.self.invariant in
    let after = length_of c.number.new.names.keys c.lower.new.self.entries (invariant_of-self-2 g c) in
    let had = lookup_key g.met.K.Eq.laws c.args.name c.in-Ok.key c.self.inside.names.keys c.number.new.names.keys c.in-Ok.ensures.numbers c.self.inside.heap.entries c.self.invariant in
    let long = rw c.number.ensures.entries at c.in-Ok-lower.ensures.len in
    rw (← c.self.view_is) (rw had (omega (arith, before, after, long)))
