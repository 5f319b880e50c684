use Rattle.dary_heap.proofs.Common.{◌+◌, arith}
use Rattle.dary_heap.proofs.sift.Choosing.{up_to}
use Rattle.dary_heap.proofs.sift.choice.greatest_of_three.Goals as goal

pub returns-clause-chosen : goal.returns-clause-chosen
returns-clause-chosen g c = c.greater_of.ensures.chosen c.args.hole.now.items c.args.first (c.args.first + 2) (c.args.first + 3) c.greatest_of_two-left.ensures.chosen
    (up_to (c.item_at.ensures g.J.Judge.order) (omega arith))
