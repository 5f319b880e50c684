use Rattle.dary_heap.proofs.Common.{◌≡◌, ◌+◌, ◌≤◌, ◌++◌, length, take, Pushes, Relaxes}
use Rattle.dary_heap.proofs.shortest_path.relax.Given as goal

abbrev pub invariant-loop-edge : goal.invariant-loop-edge
invariant-loop-edge g l = record {
  relaxes : Relaxes 18446744073709551615 l.cost (take l.edge-index l.edge-items) l.initial.found.items l.initial.heap.items l.found.items l.heap.items;
  examined : l.work.examined ≡ l.initial.work.examined ++ take l.edge-index l.edge-items;
  pushed : l.work.pushes + length l.initial.work.examined ≤ l.initial.work.pushes + length l.work.examined;
  pushes : Pushes g.row.D l.edge-index l.initial.heap l.heap;
  room : l.initial.heap.capacity ≤ l.heap.capacity;
}
