use Rattle.dary_heap.proofs.Common.{◌+◌, length, sum}
use Rattle.dary_heap.proofs.shortest_path.Searching.{IsSearch}
use Rattle.indexed_heap.specs.Lowering.{HasSameRoom, IsReady, states}
use Rattle.indexed_heap.proofs.shortest_path.Counting.{IsCounted}
use Rattle.indexed_heap.proofs.shortest_path.Tracing.{IsTraced}
use Rattle.indexed_heap.proofs.shortest_path.shortest_paths_into.Given as goal

abbrev pub invariant-loop-node : goal.invariant-loop-node
invariant-loop-node g l = record {
  search : IsSearch 18446744073709551615 l.adj_list.items l.start l.goal l.dist (states l.heap.entries);
  ready : IsReady 18446744073709551615 l.dist l.heap;
  traced : IsTraced 18446744073709551615 l.adj_list.items l.start l.dist l.prev (states l.heap.entries);
  room : HasSameRoom l.fn.heap l.heap;
  counted : IsCounted g.row.D l.fn.heap.comparisons 18446744073709551615 l.adj_list.items l.dist l.heap;
}

abbrev pub decreases-loop-node : goal.decreases-loop-node
decreases-loop-node g l = sum l.dist + length l.heap.entries
