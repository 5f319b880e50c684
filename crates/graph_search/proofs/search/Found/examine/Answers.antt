use Rattle.std.proofs.Common.{arith, inr, sym, ◌≡◌, List, [], ℕ, subst}
use Rattle.std.proofs.lemmas.Result.{err_from_is_err_and}
use Rattle.std.proofs.lemmas.List.{nil_from_length}
use Rattle.std.specs.Fn.{FnReturnsAt}
use Rattle.graph_search.specs.Searching.{CostsAt, tables}
use Rattle.graph_search.proofs.Searching.{IsRelaxing, found_node, name_at, node_read, relaxing_begins, relaxing_more, relaxing_ends, relaxing_fails, some_same}
use Rattle.graph_search.proofs.search.Found.examine.Goals as goal

pub returns-then-is_goal-clause-goal : goal.returns-then-is_goal-clause-goal
returns-then-is_goal-clause-goal g c = λ number node at there.
    let is : c.in-Some.node.now ≡ node = node_read c.args.self.now.names.keys c.args.taken.now.items c.args.place number c.index.result.now node c.in-Some.node.now c.index.ensures at c.in-Some.ensures.key there in
    record { shown = c.in-Some.node; shows = is; says = record { met = c.if-is_goal.ensures } }

pub loop-next-init : goal.loop-next-init
loop-next-init g c = λ start number node S at there.
    let is : c.in-Some.node.now ≡ node = node_read c.args.self.now.names.keys c.args.taken.now.items c.args.place number c.index.result.now node c.in-Some.node.now c.index.ensures at c.in-Some.ensures.key there in
    let costs : CostsAt c.args.self.now.reached.items number c.args.cost =
    subst (λ (n : ℕ). CostsAt c.args.self.now.reached.items n c.args.cost) (some_same c.requires.at.1 at) c.requires.at.2 in
    relaxing_begins S at there costs (record { shown = c.in-Some.node; shows = is; says = record { met = c.if-is_goal.ensures } })
    (rw is at c.in_ok-expand.ensures.lists)

pub returns-then-step-cost-clause-too_large : goal.returns-then-step-cost-clause-too_large
returns-then-step-cost-clause-too_large g c = λ number node at there refused.
    let R = c.loop-next.invariant c.requires.search.0 number node c.requires.search.1 at there in
    relaxing_fails c.pop.new.self.items c.in-Some-pop.next c.in-Some-pop.step R c.in-Some-pop.ensures.items (omega (arith, c.if-step-cost.true, c.ranges.cost))

pub expand-requires : goal.expand-requires
expand-requires g c =
    let S = c.requires.search.1 in
    let named = name_at S.ready c.requires.at.0 (S.inside c.args.place c.requires.at.0 c.requires.at.1) in
    let is : c.in-Some.node.now ≡ named.0 = node_read c.args.self.now.names.keys c.args.taken.now.items c.args.place c.requires.at.0 c.index.result.now named.0 c.in-Some.node.now c.index.ensures c.requires.at.1 c.in-Some.ensures.key named.1 in
    record { node = subst (g.G.Expand.is_node c.args.graph.now) (sym is) (found_node (g.met.G.Expand.keeps c.args.graph.now) c.requires.search.2 S c.requires.at.0 named.0 named.1); empty = c.requires.empty }

pub returns-in_err-expand-clause-too_large : goal.returns-in_err-expand-clause-too_large
returns-in_err-expand-clause-too_large g c =
    let failed = err_from_is_err_and c.from_residual.result c.from_residual.ensures.1 in
    λ number node at there.
    let is : c.in-Some.node.now ≡ node = node_read c.args.self.now.names.keys c.args.taken.now.items c.args.place number c.index.result.now node c.in-Some.node.now c.index.ensures at c.in-Some.ensures.key there in
    rw failed.1 (λ same. record {
      refused = record { shown = c.in-Some.node; shows = is; says = record { met = c.if-is_goal.ensures } };
      why = inr (subst (g.G.Expand.refuses c.args.graph.now) is (c.in_err-expand.ensures.too_large (cc (failed.2, same))));
    })

pub find-requires : goal.find-requires
find-requires g c =
    let S = c.requires.search.1 in
    let named = name_at S.ready c.requires.at.0 (S.inside c.args.place c.requires.at.0 c.requires.at.1) in
    let R = c.loop-next.invariant c.requires.search.0 c.requires.at.0 named.0 S c.requires.at.1 named.1 in
    record { ready = R.search.ready }

pub loop-next-preserved : goal.loop-next-preserved
loop-next-preserved g c = λ start number node S at there.
    let R = c.loop-next.invariant start number node S at there in
    relaxing_more c.pop.new.self.items c.in-Some-pop.next c.in-Some-pop.step g.met.N.Eq.laws (g.met.G.Expand.alike c.args.graph.now) R c.in-Some-pop.ensures.items
    (omega (arith, c.if-step-cost.false, c.ranges.cost)) c.in_ok-find.ensures.finds

pub returns-clause-search : goal.returns-clause-search
returns-clause-search g c = λ start S.
    let named = name_at S.ready c.requires.at.0 (S.inside c.args.place c.requires.at.0 c.requires.at.1) in
    let R = c.loop-next.invariant start c.requires.at.0 named.0 S c.requires.at.1 named.1 in
    let none : c.loop-next.edges.items ≡ [] = nil_from_length c.loop-next.edges.items (omega (arith, c.in_default-pop.ensures.cases.0, c.loop-next.edges.ok.0)) in
    relaxing_ends (subst (λ (l : List (g.row.N.Denot × ℕ)). IsRelaxing (g.G.Expand.edge c.args.graph.now) g.N.PartialEq.eq (FnReturnsAt g.F.Fn c.args.is_goal.now) start 18446744073709551615
    (tables c.loop-next.self.names.keys c.loop-next.self.reached.items c.loop-next.self.heap.entries) c.args.taken.now.items c.args.place c.args.cost named.0 l) none R)
