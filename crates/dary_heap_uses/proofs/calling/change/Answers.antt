use Rattle.dary_heap_uses.proofs.{nat_cmp_total, overwritten}
use Rattle.dary_heap_uses.proofs.calling.change.Goals as goal

pub returns-clause-ordered : goal.returns-clause-ordered
returns-clause-ordered c = c.fix_with.ensures.ordered (overwritten nat_cmp_total 4 c.args.place c.args.items.now c.args.item c.requires.heap)
