use Rattle.dary_heap.proofs.Common.{◌+◌, arith}
use Rattle.dary_heap.proofs.sift.Choosing.{up_to}
use Rattle.dary_heap.proofs.sift.choice.greatest_of_two.Goals as goal

pub returns-clause-chosen : goal.returns-clause-chosen
returns-clause-chosen g c = c.greater_of.ensures.chosen c.args.hole.now.items c.args.first (c.args.first + 1) (c.args.first + 2) (c.item_at.ensures g.J.Judge.order)
    (up_to (c.item_at-2.ensures g.J.Judge.order) (omega arith))
