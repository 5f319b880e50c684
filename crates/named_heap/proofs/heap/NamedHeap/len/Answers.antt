use Rattle.std.proofs.Common.{sym, ◌∙◌}
use Rattle.named_heap.proofs.Naming.{length_of, sound_of}
use Rattle.named_heap.proofs.heap.NamedHeap.len.Goals as goal

pub returns-clause-len : goal.returns-clause-len
returns-clause-len g c = rw (← c.self.view_is) (c.len.ensures.len ∙ sym (length_of c.self.inside.names.keys c.self.inside.heap.entries c.self.invariant))

pub returns-clause-sound : goal.returns-clause-sound
returns-clause-sound g c = rw (← c.self.view_is) (sound_of c.self.inside.names.keys c.self.inside.heap.entries c.self.invariant g.met.K.Eq.laws)
