use Rattle.dary_heap.proofs.Common.{◌+◌, ◌≤◌, length, sum}
use Rattle.dary_heap.proofs.shortest_path.Examining.{AreOnce, IsCharged}
use Rattle.dary_heap.proofs.shortest_path.Searching.{IsSearch}
use Rattle.dary_heap.proofs.shortest_path.search.Given as goal

abbrev pub invariant-loop-cost : goal.invariant-loop-cost
invariant-loop-cost g l = record {
  search : IsSearch 18446744073709551615 l.adj_list.items l.start l.goal l.found.items l.heap.items;
  -- the edges of some nodes were examined, each node's once
  once : AreOnce 18446744073709551615 l.adj_list.items l.found.items l.heap.items l.work.examined;
  pushed : l.work.pushes ≤ length l.work.examined + 1;
  charged : IsCharged g.row.D l.fn.heap.comparisons l.heap (length l.work.examined);
  room : l.fn.heap.capacity ≤ l.heap.capacity;
}

abbrev pub decreases-loop-cost : goal.decreases-loop-cost
decreases-loop-cost g l = sum l.found.items + length l.heap.items
