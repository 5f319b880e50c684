use Rattle.std.proofs.Common.{sym, ◌∙◌}
use Rattle.named_heap.proofs.Naming.{length-named}
use Rattle.named_heap.proofs.iter.shared.IterExactSizeIterator.len.Goals as goal

pub returns-clause-value : goal.returns-clause-value
returns-clause-value g c = rw (← c.self.view_is) (c.len.ensures.value ∙ sym (length-named c.self.inside.names.now c.self.inside.rest c.self.invariant))
