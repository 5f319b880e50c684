use Rattle.std.proofs.Common.{arith, inl, inr, ◌+◌}
use Rattle.std.proofs.lemmas.Result.{err_from_is_err_and}
use Rattle.graph_search.proofs.Guiding.{all_cheap, stuck_guided, true_cheap, true_least, true_none, true_way}
use Rattle.graph_search.proofs.guided.astar_with_hasher.Goals as goal

pub returns-in_default-clause-unreached : goal.returns-in_default-clause-unreached
returns-in_default-clause-unreached g c =
    let graph = c.args.graph.now in
    true_none (g.met.G.Graph.keeps graph) (g.met.G.Guide.consistent graph) c.requires.start (rw c.in_default.is at c.in_ok-found.ensures.unreached)

pub returns-in_default-clause-all_uncritical : goal.returns-in_default-clause-all_uncritical
returns-in_default-clause-all_uncritical g c =
    let graph = c.args.graph.now in
    all_cheap (g.met.G.Graph.keeps graph) (g.met.G.Guide.consistent graph) c.requires.start (g.met.G.Guide.even graph) (rw c.in_default.is at c.in_ok-found.ensures.all_uncritical)

pub returns-then-less-from-clause-too_large : goal.returns-then-less-from-clause-too_large
returns-then-less-from-clause-too_large g c =
    let graph = c.args.graph.now in
    λ same. inr record {
      nodes = c.in-Some.nodes.items;
      cost = c.in-Some.less + g.G.Guide.estimate graph c.args.start;
      way = true_way (g.met.G.Graph.keeps graph) (g.met.G.Guide.consistent graph) c.requires.start c.requires.zero (rw c.in-Some.is at c.in_ok-found.ensures.way);
      dear = omega (arith, c.if-less-from.true, c.estimate-from.ensures);
      least = true_least (g.met.G.Graph.keeps graph) (g.met.G.Guide.consistent graph) c.requires.start (rw c.in-Some.is at c.in_ok-found.ensures.least);
    }

pub returns-clause-way : goal.returns-clause-way
returns-clause-way g c =
    let graph = c.args.graph.now in
    rw c.estimate-from.ensures (true_way (g.met.G.Graph.keeps graph) (g.met.G.Guide.consistent graph) c.requires.start c.requires.zero (rw c.in-Some.is at c.in_ok-found.ensures.way))

pub returns-clause-least : goal.returns-clause-least
returns-clause-least g c =
    let graph = c.args.graph.now in
    rw c.estimate-from.ensures (true_least (g.met.G.Graph.keeps graph) (g.met.G.Guide.consistent graph) c.requires.start (rw c.in-Some.is at c.in_ok-found.ensures.least))

pub returns-clause-uncritical : goal.returns-clause-uncritical
returns-clause-uncritical g c =
    let graph = c.args.graph.now in
    rw c.estimate-from.ensures (true_cheap (g.met.G.Graph.keeps graph) (g.met.G.Guide.consistent graph) c.requires.start (g.met.G.Guide.even graph) (rw c.in-Some.is at c.in_ok-found.ensures.uncritical))

pub returns-in_err-found-clause-too_large : goal.returns-in_err-found-clause-too_large
returns-in_err-found-clause-too_large g c =
    let graph = c.args.graph.now in
    let failed = err_from_is_err_and c.from_residual.result c.from_residual.ensures.1 in
    rw failed.1 (λ same. inl (stuck_guided (g.met.G.Graph.keeps graph) (g.met.G.Guide.consistent graph) c.requires.start (g.met.G.Guide.even graph) (c.in_err-found.ensures.too_large (cc (failed.2, same)))))
