use Rattle.dary_heap.proofs.Common.{length, take, RisesWithin}
use Rattle.indexed_heap.specs.Lowering.{HasSameRoom, IsReady, Lowers, Notes, raises_bound}
use Rattle.indexed_heap.proofs.shortest_path.relax.Given as goal

abbrev pub invariant-loop-edge : goal.invariant-loop-edge
invariant-loop-edge g l = record {
  ready : IsReady 18446744073709551615 l.dist l.heap;
  room : HasSameRoom l.initial.heap l.heap;
  lowers : Lowers 18446744073709551615 l.cost (take l.edge-index l.edge-items) l.initial.dist l.initial.heap.entries l.dist l.heap.entries;
  noted : Notes 18446744073709551615 l.node l.cost (take l.edge-index l.edge-items) l.initial.dist l.initial.prev l.dist l.prev;
  counted : RisesWithin l.initial.heap.comparisons l.heap.comparisons (raises_bound g.row.D (length l.initial.dist) l.edge-index);
}
