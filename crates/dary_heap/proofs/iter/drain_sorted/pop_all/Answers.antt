use Rattle.dary_heap.proofs.Common.{arith, common_steps}
use Rattle.dary_heap.proofs.Popping.{one_popped}
use Rattle.dary_heap.proofs.iter.drain_sorted.pop_all.Goals as goal

pub loop-preserved-in-Some : goal.loop-preserved-in-Some
loop-preserved-in-Some g c =
    record { ordered = c.in-Some.ensures.ordered; spent = one_popped g.row.D _ _ c.loop.invariant.spent c.in-Some.ensures.capacity c.in-Some.ensures.bag c.in-Some.ensures.counted }

pub loop-preserved : goal.loop-preserved
loop-preserved g c = record { ordered = c.in-Some.ensures.ordered; spent = one_popped g.row.D _ _ c.loop.invariant.spent c.in-Some.ensures.capacity c.in-Some.ensures.bag c.in-Some.ensures.counted }

pub returns : goal.returns
returns g c = grind (arith, common_steps)
