use Rattle.dary_heap.proofs.run.Serving.{pops}
use Rattle.dary_heap.proofs.run.pop.Goals as goal

pub returns : goal.returns
returns g c = let e = c.pop.ensures in pops g.met.T.Ord.total _ _ c.pop.result e.first e.bag e.ordered e.counted e.capacity e.unchanged
