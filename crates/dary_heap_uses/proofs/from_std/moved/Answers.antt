use Rattle.dary_heap_uses.proofs.{arith, ordered_from_std_heap}
use Rattle.dary_heap_uses.proofs.from_std.moved.Goals as goal

pub from_raw_vec-requires : goal.from_raw_vec-requires
from_raw_vec-requires g c = (omega arith, rw c.into_vec.ensures.value (ordered_from_std_heap g.met.T.Ord.total _ c.requires))
