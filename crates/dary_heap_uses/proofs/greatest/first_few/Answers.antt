use Rattle.dary_heap_uses.proofs.{take_pops, ◌∙◌}
use Rattle.dary_heap_uses.proofs.greatest.first_few.Goals as goal

pub returns-clause-few : goal.returns-clause-few
returns-clause-few g c = take_pops g.T.Ord.cmp g.row.D c.args.heap c.args.k c.take.result c.collect.result (c.take.ensures.source ∙ c.into_iter_sorted.ensures.heap) c.take.ensures.count c.collect.ensures.ran
