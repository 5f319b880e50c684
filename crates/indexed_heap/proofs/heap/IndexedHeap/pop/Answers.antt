use Rattle.indexed_heap.proofs.Sound.{greatest}
use Rattle.indexed_heap.proofs.heap.IndexedHeap.pop.Goals as goal

pub returns-clause-greatest : goal.returns-clause-greatest
returns-clause-greatest g c = greatest g.row.D g.met.J.Judge.total c.args.self.now.entries c.take_out.result c.is_empty.ensures.sound.ordered c.take_out.ensures.taken
