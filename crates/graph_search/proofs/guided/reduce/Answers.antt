use Rattle.std.proofs.Common.{arith, Contains, length, ◌<◌, ◌≡◌, ◌++◌, ◌+◌, ◌-◌, ℕ, get_or, map, take, drop, subst, sym, slice_set}
use Rattle.std.proofs.lemmas.List.Edits.{map_over_more}
use Rattle.graph_search.proofs.Guiding.{get_or_same, read_later}
use Rattle.graph_search.specs.Guided.{less_estimate}
use Rattle.graph_search.proofs.guided.reduce.Goals as goal

pub loop-edge-preserved : goal.loop-edge-preserved
loop-edge-preserved g c =
    let estimate = g.G.Guide.estimate c.args.graph.now in
    let x = c.edge-item.result in
    let i = c.loop-edge.edge-index in
    let there : c.estimate-there.result ≡ estimate x.0 = (cc (c.estimate-there.ensures, c.edge-item.is)) in
    let more = map_over_more (less_estimate estimate c.args.from) c.args.edges.now.items c.loop-edge.edge-items i x (omega arith) c.loop-edge.invariant c.edge-item.is in
    let before = subst (λ (y : g.row.N.Denot × ℕ). slice_set c.loop-edge.edge-items i (y.0, y.1 + c.estimate-there.result - c.args.from)
    ≡ map (less_estimate estimate c.args.from) (take (i + 1) c.args.edges.now.items) ++ drop (i + 1) c.args.edges.now.items) c.edge-item.is (rw there more) in
    let y = get_or c.loop-edge.edge-items i x in
    let cost : c.in-Some.cost ≡ y.1 + c.estimate-there.result - c.args.from = c.in-Some.ensures.reduced in
    subst (λ (d : ℕ). slice_set c.loop-edge.edge-items i (y.0, d) ≡ map (less_estimate estimate c.args.from) (take (i + 1) c.args.edges.now.items) ++ drop (i + 1) c.args.edges.now.items) (sym cost) before

pub returns-in_default-clause-too_large : goal.returns-in_default-clause-too_large
returns-in_default-clause-too_large g c =
    let old = c.args.edges.now.items in
    let i = c.loop-edge.edge-index in
    let y = get_or c.loop-edge.edge-items i c.edge-item.result in
    let within : i < length old = omega arith in
    let same : y ≡ get_or old i c.edge-item.result = read_later (less_estimate (g.G.Guide.estimate c.args.graph.now) c.args.from) old c.loop-edge.edge-items i c.edge-item.result within c.loop-edge.invariant in
    let there : Contains old y = (i, within, get_or_same old i c.edge-item.result y within (sym same)) in
    (y, there, omega (arith, c.in_default.ensures.too_large, c.estimate-there.ensures))
