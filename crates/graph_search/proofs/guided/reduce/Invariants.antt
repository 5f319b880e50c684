use Rattle.std.proofs.Common.{◌≡◌, ◌++◌, map, take, drop}
use Rattle.graph_search.specs.Guided.{less_estimate}
use Rattle.graph_search.proofs.guided.reduce.Given as goal

abbrev pub invariant-loop-edge : goal.invariant-loop-edge
invariant-loop-edge g l = l.edge-items ≡ map (less_estimate (g.G.Guide.estimate l.graph) l.from) (take l.edge-index l.fn.edges.items) ++ drop l.edge-index l.fn.edges.items
