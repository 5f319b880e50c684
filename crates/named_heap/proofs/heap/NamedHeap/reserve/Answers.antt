use Rattle.named_heap.proofs.Naming.{sound_of}
use Rattle.named_heap.proofs.heap.NamedHeap.reserve.Goals as goal

pub returns-then-additional-room-clause-sound : goal.returns-then-additional-room-clause-sound
returns-then-additional-room-clause-sound g c = rw (← c.self.view_is) (sound_of c.self.inside.names.keys c.self.inside.heap.entries c.self.invariant g.met.K.Eq.laws)

pub returns-in_err-keys-clause-sound : goal.returns-in_err-keys-clause-sound
returns-in_err-keys-clause-sound g c = rw (← c.self.view_is) (sound_of c.self.inside.names.keys c.self.inside.heap.entries c.self.invariant g.met.K.Eq.laws)

pub returns-in_err-reserve-clause-sound : goal.returns-in_err-reserve-clause-sound
returns-in_err-reserve-clause-sound g c = rw c.reserve.ensures.entries (sound_of c.self.inside.names.keys c.self.inside.heap.entries c.self.invariant g.met.K.Eq.laws)

pub returns-clause-sound : goal.returns-clause-sound
returns-clause-sound g c = rw c.reserve.ensures.entries (rw c.reserve-2.ensures.keys (sound_of c.self.inside.names.keys c.self.inside.heap.entries c.self.invariant g.met.K.Eq.laws))
