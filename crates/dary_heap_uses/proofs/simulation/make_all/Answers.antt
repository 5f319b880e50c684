use Rattle.dary_heap_uses.proofs.{FoldsTo-push, IsMade, Schedule, arith, take_more}
use Rattle.dary_heap_uses.proofs.simulation.make_all.Goals as goal

pub loop-made-preserved : goal.loop-made-preserved
loop-made-preserved g c = record {
  made = rw (take_more c.args.changes.now c.loop-made.made (Schedule 0 0) (omega arith)) (FoldsTo-push IsMade _ _ _ _ _ c.loop-made.invariant.made c.if-not-make.ensures.made);
  grows = (omega arith, omega arith);
}
