use Rattle.std.proofs.Common.{◌≡◌, map, take}
use Rattle.graph_search.proofs.Listed.{step_of}
use Rattle.graph_search.proofs.graph.lists.VecVecEdgeGraphUsize.edges_from.Given as goal

abbrev pub invariant-loop-edge : goal.invariant-loop-edge
invariant-loop-edge l = l.edges.items ≡ map step_of (take l.edge-index l.edge-items)
