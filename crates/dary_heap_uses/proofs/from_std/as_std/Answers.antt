use Rattle.dary_heap_uses.proofs.{std_heap_from_ordered}
use Rattle.dary_heap_uses.proofs.from_std.as_std.Goals as goal

pub returns-clause-heap : goal.returns-clause-heap
returns-clause-heap g c = std_heap_from_ordered g.met.T.Ord.total _ c.into_vec.ensures.ordered
