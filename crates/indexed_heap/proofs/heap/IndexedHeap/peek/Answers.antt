use Rattle.dary_heap.proofs.Common.{arith}
use Rattle.std.proofs.lemmas.Grind.{common_steps}
use Rattle.indexed_heap.proofs.Sound.{sound}
use Rattle.indexed_heap.proofs.heap.IndexedHeap.peek.Goals as goal

pub returns-clause-sound : goal.returns-clause-sound
returns-clause-sound g c = rw (← c.self.view_is) (sound g.row.D c.self.inside.entries.items c.self.inside.places.items c.peek.ensures.ordered c.self.invariant)

pub returns-in_err-key-clause-sound : goal.returns-in_err-key-clause-sound
returns-in_err-key-clause-sound g c = grind (arith, common_steps)

pub returns-clause-greatest : goal.returns-clause-greatest
returns-clause-greatest g c = grind (arith, common_steps)
