use Rattle.std.proofs.Common.{arith, sym, ◌≡◌, ◌+◌, ◌-◌, subst, length}
use Rattle.std.proofs.lemmas.Result.{err_from_is_err_and}
use Rattle.std.specs.Fn.{FnReturnsAt}
use Rattle.dary_heap.proofs.Bags.{has_none}
use Rattle.dary_heap.specs.declared.shortest_path.PathRefusal.TheVariants.{CostTooLarge}
use Rattle.graph_search.proofs.Answering.{cheap_below, low_of, no_goal, none_critical, pushed_at, refused_below, search_at}
use Rattle.graph_search.proofs.Answering.{search_begins, search_pushed, stuck, taken_costs, taken_name, traced, way_distinct, way_read}
use Rattle.graph_search.specs.Searching.{AreTraced, HasStuck, IsReadOff}
use Rattle.graph_search.specs.declared.search.Found.{Found}
use Rattle.graph_search.proofs.search.search.Goals as goal

pub loop-number-init : goal.loop-number-init
loop-number-init g c = record {
  search = (
    0,
    rw c.new-taken.ensures.items (search_begins
        (rw (c.new-found.ensures.names, c.new-found.ensures.reached, c.new-found.ensures.entries) at c.in_ok-find.ensures.finds)),
  );
  empty = c.new-edges.ensures.items;
}

pub examine-requires-clause-search : goal.examine-requires-clause-search
examine-requires-clause-search g c =
    let S = c.loop-number.invariant.search.1 in let pop = c.in-Some.ensures in let entries = c.loop-number.found.heap.entries in
    let low = low_of entries (c.in-Some.number, c.in-Some.cost) pop.greatest in
    let at : c.len-place.result ≡ length c.loop-number.taken.items = omega (arith, c.len-place.ensures, c.loop-number.taken.ok.0) in
    (c.args.start, search_pushed c.in-Some.number c.in-Some.cost c.pop.new.self.entries S pop.bag pop.gone low c.push.new.self.items c.len-place.result c.in_ok-push.ensures.items at, c.requires.start)

pub examine-requires-clause-at : goal.examine-requires-clause-at
examine-requires-clause-at g c =
    let S = c.loop-number.invariant.search.1 in let pop = c.in-Some.ensures in let entries = c.loop-number.found.heap.entries in
    let low = low_of entries (c.in-Some.number, c.in-Some.cost) pop.greatest in
    let at : c.len-place.result ≡ length c.loop-number.taken.items = omega (arith, c.len-place.ensures, c.loop-number.taken.ok.0) in (
      c.in-Some.number,
      pushed_at c.in-Some.number c.in-Some.cost c.pop.new.self.entries S pop.bag pop.gone low c.push.new.self.items c.len-place.result c.in_ok-push.ensures.items at,
      taken_costs c.in-Some.number c.in-Some.cost c.pop.new.self.entries S pop.bag pop.gone low,
    )

pub loop-number-preserved : goal.loop-number-preserved
loop-number-preserved g c =
    let S = c.loop-number.invariant.search.1 in let pop = c.in-Some.ensures in let entries = c.loop-number.found.heap.entries in
    let low = low_of entries (c.in-Some.number, c.in-Some.cost) pop.greatest in
    let at : c.len-place.result ≡ length c.loop-number.taken.items = omega (arith, c.len-place.ensures, c.loop-number.taken.ok.0) in
    let P = search_pushed c.in-Some.number c.in-Some.cost c.pop.new.self.entries S pop.bag pop.gone low c.push.new.self.items c.len-place.result c.in_ok-push.ensures.items at in
    let long : c.len-place.result + 1 ≡ length c.push.new.self.items = omega (arith, c.len-place.ensures, c.in_ok-push.ensures.len, c.push.new.self.ok.0) in
    record {
      search = (c.in-Some.cost, search_at (c.len-place.result + 1) (length c.push.new.self.items) long (rw c.if-at_goal.false at (c.in_ok-at_goal.ensures.search c.args.start P)));
      empty = rw c.if-at_goal.false at c.in_ok-at_goal.ensures.empty;
    }

pub returns-in_err-at_goal-clause-too_large : goal.returns-in_err-at_goal-clause-too_large
returns-in_err-at_goal-clause-too_large g c =
    let S = c.loop-number.invariant.search.1 in let pop = c.in-Some.ensures in let entries = c.loop-number.found.heap.entries in
    let low = low_of entries (c.in-Some.number, c.in-Some.cost) pop.greatest in
    let at : c.len-place.result ≡ length c.loop-number.taken.items = omega (arith, c.len-place.ensures, c.loop-number.taken.ok.0) in
    let there = pushed_at c.in-Some.number c.in-Some.cost c.pop.new.self.entries S pop.bag pop.gone low c.push.new.self.items c.len-place.result c.in_ok-push.ensures.items at in
    let costs = taken_costs c.in-Some.number c.in-Some.cost c.pop.new.self.entries S pop.bag pop.gone low in
    let node = taken_name c.in-Some.number c.in-Some.cost c.pop.new.self.entries S pop.bag pop.gone low in
    let large = c.in_err-at_goal.ensures.too_large c.in-Some.number node.0 there node.1 in
    let fatal : c.in_err-at_goal.field-0.0 ≡ CostTooLarge →
    HasStuck (g.G.Expand.edge c.args.graph.now) (g.G.Expand.refuses c.args.graph.now) g.N.PartialEq.eq (FnReturnsAt g.F.Fn c.args.is_goal) c.args.start 18446744073709551615 =
    λ is. stuck g.met.N.Eq.laws (g.met.G.Expand.alike c.args.graph.now) S c.in-Some.number c.in-Some.cost node.0 costs node.1 low (large is) in
    let failed = err_from_is_err_and c.from_residual-in_err-at_goal.result c.from_residual-in_err-at_goal.ensures.1 in
    rw failed.1 (λ is. fatal (cc (failed.2, is)))

pub way_to-requires : goal.way_to-requires
way_to-requires g c =
    let S = c.loop-number.invariant.search.1 in let pop = c.in-Some.ensures in let entries = c.loop-number.found.heap.entries in
    let low = low_of entries (c.in-Some.number, c.in-Some.cost) pop.greatest in
    let at : c.len-place.result ≡ length c.loop-number.taken.items = omega (arith, c.len-place.ensures, c.loop-number.taken.ok.0) in
    let P = search_pushed c.in-Some.number c.in-Some.cost c.pop.new.self.entries S pop.bag pop.gone low c.push.new.self.items c.len-place.result c.in_ok-push.ensures.items at in
    let same = rw c.if-at_goal.true at c.in_ok-at_goal.ensures.unchanged in
    record {
      traced = subst (λ (f : Found g.row.N.Denot g.row.S.Denot g.row.S-Hasher.Denot). AreTraced f.names.keys f.reached.items c.push.new.self.items) (sym same)
          (traced g.met.N.Eq.laws P (omega (arith, c.in_ok-push.ensures.len, c.push.new.self.ok.0)));
    }

pub returns-then-at_goal-clause-way : goal.returns-then-at_goal-clause-way
returns-then-at_goal-clause-way g c =
    let S = c.loop-number.invariant.search.1 in let pop = c.in-Some.ensures in let entries = c.loop-number.found.heap.entries in
    let low = low_of entries (c.in-Some.number, c.in-Some.cost) pop.greatest in
    let at : c.len-place.result ≡ length c.loop-number.taken.items = omega (arith, c.len-place.ensures, c.loop-number.taken.ok.0) in
    let P = search_pushed c.in-Some.number c.in-Some.cost c.pop.new.self.entries S pop.bag pop.gone low c.push.new.self.items c.len-place.result c.in_ok-push.ensures.items at in
    let same = rw c.if-at_goal.true at c.in_ok-at_goal.ensures.unchanged in
    let more = c.push.new.self.items in
    let last : length more - 1 ≡ length c.loop-number.taken.items = omega (arith, c.in_ok-push.ensures.len, c.push.new.self.ok.0, c.loop-number.taken.ok.0) in
    let there = pushed_at c.in-Some.number c.in-Some.cost c.pop.new.self.entries S pop.bag pop.gone low more c.len-place.result c.in_ok-push.ensures.items at in
    let there_last = pushed_at c.in-Some.number c.in-Some.cost c.pop.new.self.entries S pop.bag pop.gone low more (length more - 1) c.in_ok-push.ensures.items last in
    let costs = taken_costs c.in-Some.number c.in-Some.cost c.pop.new.self.entries S pop.bag pop.gone low in
    let node = taken_name c.in-Some.number c.in-Some.cost c.pop.new.self.entries S pop.bag pop.gone low in
    let read = subst (λ (f : Found g.row.N.Denot g.row.S.Denot g.row.S-Hasher.Denot). IsReadOff f.names.keys f.reached.items c.push.new.self.items c.in_ok-nodes.nodes.items) same c.in_ok-nodes.ensures.read in
    way_read g.met.N.Eq.laws P c.in_ok-nodes.nodes.items node.0 c.in-Some.cost c.in-Some.number read there_last node.1 costs
    (rw c.if-at_goal.true at (c.in_ok-at_goal.ensures.goal c.in-Some.number node.0 there node.1))

pub returns-then-at_goal-clause-least : goal.returns-then-at_goal-clause-least
returns-then-at_goal-clause-least g c =
    let S = c.loop-number.invariant.search.1 in let pop = c.in-Some.ensures in let entries = c.loop-number.found.heap.entries in
    let low = low_of entries (c.in-Some.number, c.in-Some.cost) pop.greatest in
    refused_below g.met.N.Eq.laws (g.met.G.Expand.alike c.args.graph.now) S c.in-Some.cost low

pub returns-then-at_goal-clause-once : goal.returns-then-at_goal-clause-once
returns-then-at_goal-clause-once g c =
    let S = c.loop-number.invariant.search.1 in let pop = c.in-Some.ensures in let entries = c.loop-number.found.heap.entries in
    let low = low_of entries (c.in-Some.number, c.in-Some.cost) pop.greatest in
    let at : c.len-place.result ≡ length c.loop-number.taken.items = omega (arith, c.len-place.ensures, c.loop-number.taken.ok.0) in
    let P = search_pushed c.in-Some.number c.in-Some.cost c.pop.new.self.entries S pop.bag pop.gone low c.push.new.self.items c.len-place.result c.in_ok-push.ensures.items at in
    let same = rw c.if-at_goal.true at c.in_ok-at_goal.ensures.unchanged in
    let read = subst (λ (f : Found g.row.N.Denot g.row.S.Denot g.row.S-Hasher.Denot). IsReadOff f.names.keys f.reached.items c.push.new.self.items c.in_ok-nodes.nodes.items) same c.in_ok-nodes.ensures.read in
    way_distinct g.met.N.Eq.laws P c.in_ok-nodes.nodes.items read

pub returns-clause-unreached : goal.returns-clause-unreached
returns-clause-unreached g c = no_goal g.met.N.Eq.laws (g.met.G.Expand.alike c.args.graph.now) c.loop-number.invariant.search.1
    (has_none c.loop-number.found.heap.entries (λ some. let no_entry = c.in_default.ensures.variant.1 some in cc))

pub returns-then-at_goal-clause-uncritical : goal.returns-then-at_goal-clause-uncritical
returns-then-at_goal-clause-uncritical g c =
    let S = c.loop-number.invariant.search.1 in let pop = c.in-Some.ensures in let entries = c.loop-number.found.heap.entries in
    let low = low_of entries (c.in-Some.number, c.in-Some.cost) pop.greatest in
    cheap_below g.met.N.Eq.laws (g.met.G.Expand.alike c.args.graph.now) S c.in-Some.cost low

pub returns-clause-all_uncritical : goal.returns-clause-all_uncritical
returns-clause-all_uncritical g c = none_critical g.met.N.Eq.laws (g.met.G.Expand.alike c.args.graph.now) c.loop-number.invariant.search.1
    (has_none c.loop-number.found.heap.entries (λ some. let no_entry = c.in_default.ensures.variant.1 some in cc))
