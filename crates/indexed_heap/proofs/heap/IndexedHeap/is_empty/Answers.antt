use Rattle.indexed_heap.proofs.Sound.{sound}
use Rattle.indexed_heap.proofs.heap.IndexedHeap.is_empty.Goals as goal

pub returns-clause-sound : goal.returns-clause-sound
returns-clause-sound g c = rw (← c.self.view_is) (sound g.row.D c.self.inside.entries.items c.self.inside.places.items c.is_empty.ensures.ordered c.self.invariant)
