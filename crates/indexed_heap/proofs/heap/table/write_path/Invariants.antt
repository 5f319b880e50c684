use Rattle.dary_heap.proofs.Common.{◌<◌, length}
use Rattle.dary_heap.specs.Path.{IsAbove}
use Rattle.indexed_heap.specs.Places.{AreRightOffPath}
use Rattle.indexed_heap.proofs.heap.table.write_path.Given as goal

abbrev pub invariant-loop-at : goal.invariant-loop-at
invariant-loop-at g l = record {
  inside : l.at < length l.entries;
  above : IsAbove g.row.D l.high l.at;
  right : AreRightOffPath g.row.D l.at l.high l.entries l.places;
}

abbrev pub decreases-loop-at : goal.decreases-loop-at
decreases-loop-at g l = l.at
