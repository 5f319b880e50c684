use Rattle.dary_heap.proofs.{upper_bound}
use Rattle.dary_heap.proofs.heap.DaryHeap.replace.Goals as goal

pub returns-clause-above_all : goal.returns-clause-above_all
returns-clause-above_all g c = upper_bound g.met.J.Judge.total _ c.replace_first.result c.replace_first.ensures.greatest
