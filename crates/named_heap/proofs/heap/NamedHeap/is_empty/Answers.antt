use Rattle.std.proofs.Common.{ℕ, ap, sym, ◌∙◌}
use Rattle.std.specs.Prelude.{◌==◌}
use Rattle.named_heap.proofs.Naming.{length_of, sound_of}
use Rattle.named_heap.proofs.heap.NamedHeap.is_empty.Goals as goal

pub returns-clause-empty : goal.returns-clause-empty
returns-clause-empty g c = rw (← c.self.view_is) (c.is_empty.ensures.empty ∙ ap (λ (n : ℕ). n == 0) (sym (length_of c.self.inside.names.keys c.self.inside.heap.entries c.self.invariant)))

pub returns-clause-sound : goal.returns-clause-sound
returns-clause-sound g c = rw (← c.self.view_is) (sound_of c.self.inside.names.keys c.self.inside.heap.entries c.self.invariant g.met.K.Eq.laws)
