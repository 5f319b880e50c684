use Rattle.std.proofs.Common.{sym, ◌∙◌}
use Rattle.named_heap.proofs.Naming.{lookup_found, lookup_missing}
use Rattle.named_heap.proofs.heap.NamedHeap.get.Goals as goal

pub returns-in_err-key : goal.returns-in_err-key
returns-in_err-key g c = record {
  item = rw c.from_residual.ensures (rw (← c.self.view_is) (sym (lookup_missing c.self.inside.names.keys c.self.inside.heap.entries c.self.invariant g.met.K.Eq.laws
      (g.Q.Equivalent.equivalent c.args.name) (sym c.in_err-key.ensures.found))));
}

pub returns : goal.returns
returns g c = record {
  item = rw (← c.self.view_is) (c.get.ensures.map ∙ sym (lookup_found c.self.inside.names.keys c.self.inside.heap.entries c.self.invariant g.met.K.Eq.laws (g.Q.Equivalent.equivalent c.args.name)
      (g.met.Q.Equivalent.respects_eq c.args.name) c.in_ok-key.key (sym c.in_ok-key.ensures.index)));
}
