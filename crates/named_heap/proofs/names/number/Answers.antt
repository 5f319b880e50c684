use Rattle.dary_heap.proofs.Common.{inl, refl, sym}
use Rattle.named_heap.proofs.Naming.{found_at}
use Rattle.named_heap.proofs.Numbering.{numbered}
use Rattle.named_heap.proofs.names.number.Goals as goal

pub returns-in-Some-clause-numbers : goal.returns-in-Some-clause-numbers
returns-in-Some-clause-numbers g c =
    let found = found_at (g.K.PartialEq.eq c.args.name) c.args.names.now.keys c.in-Some.key (sym c.in-Some.ensures.index) in
    record { stored = found.0; there = found.1; same = found.2; either = inl refl }

pub returns-in-Ok-clause-numbers : goal.returns-in-Ok-clause-numbers
returns-in-Ok-clause-numbers g c =
    let stored = c.in-Ok.ensures.stored in
    numbered c.args.name c.in-Ok.key c.args.names.now.keys c.insert_full.new.self.keys c.in-Ok.ensures.keys c.in-Ok.ensures.within stored.0 stored.1 stored.2
