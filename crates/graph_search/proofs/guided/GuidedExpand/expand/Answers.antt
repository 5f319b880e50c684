use Rattle.std.proofs.Common.{arith, inl, inr, ◌+◌, ◌-◌}
use Rattle.std.proofs.lemmas.Result.{err_from_is_err_and}
use Rattle.graph_search.proofs.Guiding.{lists_reduced}
use Rattle.graph_search.proofs.guided.GuidedExpand.expand.Goals as goal

pub reduce-requires : goal.reduce-requires
reduce-requires g c =
    let graph = c.args.self.now.graph.now in
    record {
      nodes = λ e h. g.met.G.Graph.keeps graph c.args.node.now e.0 e.1 c.requires.node (c.in_ok-edges_from.ensures.lists.each e h);
      falls = λ e h. omega (arith, c.estimate.ensures, g.met.G.Guide.consistent graph c.args.node.now e.0 e.1 c.requires.node (c.in_ok-edges_from.ensures.lists.each e h));
    }

pub returns-clause-lists : goal.returns-clause-lists
returns-clause-lists g c =
    let graph = c.args.self.now.graph.now in
    let lists = lists_reduced (g.met.G.Graph.keeps graph) (g.met.G.Guide.consistent graph) c.args.node.now c.edges_from.new.edges.items c.requires.node (g.met.G.Guide.even graph) c.in_ok-edges_from.ensures.lists in
    rw c.in_ok-reduce.ensures.reduced (rw c.estimate.ensures lists)

pub returns-in_err-edges_from-clause-too_large : goal.returns-in_err-edges_from-clause-too_large
returns-in_err-edges_from-clause-too_large g c =
    let failed = err_from_is_err_and c.from_residual.result c.from_residual.ensures.1 in
    rw failed.1 (λ same. inl (c.in_err-edges_from.ensures.too_large (cc (failed.2, same))))

pub returns-in_err-reduce-clause-too_large : goal.returns-in_err-reduce-clause-too_large
returns-in_err-reduce-clause-too_large g c =
    let graph = c.args.self.now.graph.now in
    let failed = err_from_is_err_and c.from_residual-in_err-reduce.result c.from_residual-in_err-reduce.ensures.1 in
    let e = c.in_err-reduce.ensures.too_large in
    let leads = c.in_ok-edges_from.ensures.lists.each e.0 e.1 in
    let low = g.met.G.Guide.consistent graph c.args.node.now e.0.0 e.0.1 c.requires.node leads in
    rw failed.1 (λ same. inr (record {
      next = e.0.0;
      step = e.0.1 + g.G.Guide.estimate graph e.0.0 - g.G.Guide.estimate graph c.args.node.now;
      leaves = (e.0.1, leads, omega (arith, low));
      too_large = omega (arith, e.2, c.estimate.ensures);
    }))
