use Rattle.indexed_heap.proofs.heap.convert.IndexedHeapDebug.fmt.Goals as goal

pub returns : goal.returns
returns g c = record { writes = rw (← c.self.view_is) c.fmt.ensures.writes }
