use Rattle.dary_heap.proofs.Common.{subst, IsExtended, map-id}
use Rattle.dary_heap.proofs.heap.join.DaryHeapExtend.extend.Goals as goal

pub returns-clause-ran : goal.returns-clause-ran
returns-clause-ran g c =
    let k = c.extend_heap.ensures.ran in
    (k.0, k.1, k.2, subst (λ xs. IsExtended g.J.Judge.order g.row.D c.args.self.now xs c.extend_heap.new.heap) (map-id k.1) k.3, k.4)
