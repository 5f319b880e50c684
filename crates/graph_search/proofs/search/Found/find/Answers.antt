use Rattle.std.proofs.Common.{arith, refl}
use Rattle.graph_search.proofs.Finding.{few, found_known, found_raised, lowered}
use Rattle.graph_search.proofs.Numbering.{numbered}
use Rattle.graph_search.proofs.search.Found.find.Goals as goal

pub note-requires : goal.note-requires
note-requires g c =
    let e = c.in_ok-number.ensures in
    let numbers = numbered {eq = g.N.PartialEq.eq} c.args.node c.in_ok-number.number c.args.self.now.names.keys c.insert_full.new.self.keys e.keys e.within e.stored.0 e.stored.1 e.stored.2 in
    omega (arith, few numbers, c.requires.ready.long)

pub returns-in-Ok : goal.returns-in-Ok
returns-in-Ok g c =
    let e = c.in_ok-number.ensures in
    let numbers = numbered {eq = g.N.PartialEq.eq} c.args.node c.in_ok-number.number c.args.self.now.names.keys c.insert_full.new.self.keys e.keys e.within e.stored.0 e.stored.1 e.stored.2 in
    record { finds = found_raised c.requires.ready numbers c.insert_full.ensures.unique (rw c.if-cheaper.true at c.in_ok-cheaper.ensures.sets) (lowered c.requires.ready.exact (rw c.if-cheaper.true at c.in_ok-cheaper.ensures.sets) c.in-Ok.ensures.sound.distinct c.in-Ok.field-0 c.in-Ok.ensures.raised c.in-Ok.ensures.reached) }

pub returns-else-cheaper : goal.returns-else-cheaper
returns-else-cheaper g c =
    let e = c.in_ok-number.ensures in
    let numbers = numbered {eq = g.N.PartialEq.eq} c.args.node c.in_ok-number.number c.args.self.now.names.keys c.insert_full.new.self.keys e.keys e.within e.stored.0 e.stored.1 e.stored.2 in
    record { finds = found_known c.requires.ready numbers c.insert_full.ensures.unique (rw c.if-cheaper.false at c.in_ok-cheaper.ensures.known) refl }
