use Rattle.std.proofs.Common.{arith, ap, refl, ◌∙◌, ◌≡◌, ◌≤◌, length, map, take, Some, slice_get}
use Rattle.dary_heap.proofs.Common.{slice_get_read}
use Rattle.std.proofs.lemmas.List.{take_all}
use Rattle.graph_search.proofs.Listed.{lists_row, step_of}
use Rattle.graph_search.proofs.graph.lists.VecVecEdgeGraphUsize.edges_from.Goals as goal

pub returns-clause-lists : goal.returns-clause-lists
returns-clause-lists c =
    let graph = c.args.self.now.items in
    let row = c.index.result.now in
    let row_is : slice_get graph c.args.node.now ≡ Some row = slice_get_read graph (length graph) c.args.node.now row refl c.requires.node.1 c.index.ensures in
    let edges = c.deref-edge-items.result.now in
    let whole : take c.loop-edge.edge-index edges ≡ edges = take_all c.loop-edge.edge-index edges (omega (arith, c.loop-edge-test.false)) in
    lists_row graph c.args.node.now row c.loop-edge.edges.items row_is (c.loop-edge.invariant ∙ ap (map step_of) (whole ∙ c.deref-edge-items.ensures.value))
