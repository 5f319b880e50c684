use Rattle.dary_heap.proofs.Common.{length}
use Rattle.indexed_heap.proofs.Appending.{AreMoved}
use Rattle.indexed_heap.proofs.heap.append.insert_all.Given as goal

abbrev pub invariant-loop-entries : goal.invariant-loop-entries
invariant-loop-entries g l = AreMoved g.J.Judge.order g.row.D l.initial.heap l.initial.entries l.heap l.entries

abbrev pub decreases-loop-entries : goal.decreases-loop-entries
decreases-loop-entries g l = length l.entries.items
