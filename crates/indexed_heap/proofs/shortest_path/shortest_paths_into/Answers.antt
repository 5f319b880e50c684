use Rattle.dary_heap.proofs.Common.{◌∙◌, ℕ, List, [], arith, ap, err_from_is_err_and, lit<, refl, replicate, subst, length-map, length_permutation}
use Rattle.dary_heap.proofs.Bags.{has_none}
use Rattle.dary_heap.proofs.shortest_path.Searching.{IsSearch, after_examining, found_least, found_uncritical, none_reached, none_uncritical, row_read, search_begins, taken, too_large}
use Rattle.indexed_heap.specs.Lowering.{states}
use Rattle.indexed_heap.proofs.shortest_path.Counting.{counted_begins, counted_ends, counted_failed, counted_goal, counted_more}
use Rattle.indexed_heap.proofs.shortest_path.Lowering.{begins_alone, low_of, row_within, state_of, states_same}
use Rattle.indexed_heap.proofs.shortest_path.Nearer.{nearer_all, nearer_goal}
use Rattle.indexed_heap.proofs.shortest_path.Tracing.{traced_all, traced_begins, traced_goal, traced_more}
use Rattle.indexed_heap.proofs.shortest_path.Waiting.{found_here, same_room, taken_exact, taken_ready}
use Rattle.indexed_heap.proofs.shortest_path.shortest_paths_into.Goals.{In_default}
use Rattle.indexed_heap.proofs.shortest_path.shortest_paths_into.Goals as goal

pub loop-node-init : goal.loop-node-init
loop-node-init g c =
    let nothing = c.fill.ensures.after (λ y is. is) ∙ ap (λ (n : ℕ). replicate n 18446744073709551615) c.requires.dist in
    let first = c.wait_at.ensures in
    record {
      search = rw first.dist (search_begins _ (lit< tt) refl c.requires.start nothing (begins_alone c.clear.ensures.entries first.waits));
      traced = rw first.dist (traced_begins (states c.wait_at.new.heap.entries) c.requires.start nothing c.requires.prev);
      ready = first.ready;
      room = same_room (record { capacity = c.clear.ensures.capacity; keys = c.clear.ensures.keys }) first.room;
      counted = rw first.dist (rw c.clear.ensures.uncounted at (counted_begins c.clear.new.self c.wait_at.new.heap c.requires.start nothing c.clear.ensures.entries first.waits first.counted));
    }

pub returns-then-node-goal-clause-least : goal.returns-then-node-goal-clause-least
returns-then-node-goal-clause-least g c = found_least c.loop-node.invariant.search (states_same _ _ c.in-Some.ensures.bag) (low_of _ _ (rw g.met.J.JudgesByOrd.by_ord at c.in-Some.ensures.greatest)) c.if-node-goal.true

pub returns-then-node-goal-clause-uncritical : goal.returns-then-node-goal-clause-uncritical
returns-then-node-goal-clause-uncritical g c = found_uncritical c.loop-node.invariant.search (states_same _ _ c.in-Some.ensures.bag) (low_of _ _ (rw g.met.J.JudgesByOrd.by_ord at c.in-Some.ensures.greatest)) c.if-node-goal.true

pub returns-then-node-goal-clause-counted : goal.returns-then-node-goal-clause-counted
returns-then-node-goal-clause-counted g c =
    counted_goal c.loop-node.invariant.counted c.pop.new.self c.loop-node.invariant.ready c.in-Some.ensures.bag c.loop-node.invariant.search.long c.in-Some.ensures.counted

pub returns-then-node-goal-clause-back : goal.returns-then-node-goal-clause-back
returns-then-node-goal-clause-back g c =
    let before = c.loop-node.invariant in
    let pop = c.in-Some.ensures in
    traced_goal before.search before.traced (states_same _ _ pop.bag) (taken_exact before.ready pop.bag) c.if-node-goal.true

pub returns-then-node-goal-clause-all_back : goal.returns-then-node-goal-clause-all_back
returns-then-node-goal-clause-all_back g c = traced_all c.loop-node.invariant.traced

pub returns-clause-all_back : goal.returns-clause-all_back
returns-clause-all_back g c = traced_all c.loop-node.invariant.traced

pub returns-then-node-goal-clause-here : goal.returns-then-node-goal-clause-here
returns-then-node-goal-clause-here g c =
    let ready = c.loop-node.invariant.ready in
    found_here ready c.in-Some.ensures.bag c.if-node-goal.true

pub returns-then-node-goal-clause-nearer : goal.returns-then-node-goal-clause-nearer
returns-then-node-goal-clause-nearer g c =
    nearer_goal c.loop-node.invariant.search (states_same _ _ c.in-Some.ensures.bag) (low_of _ _ (rw g.met.J.JudgesByOrd.by_ord at c.in-Some.ensures.greatest)) c.if-node-goal.true

pub index-requires : goal.index-requires
index-requires g c =
    let S = c.loop-node.invariant.search in
    omega (arith, (taken S (states_same _ _ c.in-Some.ensures.bag)).within, S.long, c.args.adj_list.now.ok.0)

pub relax-requires : goal.relax-requires
relax-requires g c =
    let S = c.loop-node.invariant.search in
    let pop = c.in-Some.ensures in
    let row_is = row_read S (states_same _ _ pop.bag) c.index.result.now c.index.ensures in (
      grind arith,
      (
        row_within c.args.adj_list.now.items c.in-Some.node c.index.result.now c.requires.graph S.long row_is,
        (taken_ready c.loop-node.invariant.ready pop.bag pop.sound.distinct (record { capacity = pop.capacity; keys = pop.keys }), c.loop-node.invariant.traced.long),
      ),
    )

pub loop-node-smaller : goal.loop-node-smaller
loop-node-smaller g c =
    omega (arith, c.in_ok-relax.ensures.ok.spent, length_permutation _ _ c.in-Some.ensures.bag, length-map c.pop.new.self.entries state_of, length-map c.relax.new.heap.entries state_of)

pub loop-node-preserved : goal.loop-node-preserved
loop-node-preserved g c =
    let before = c.loop-node.invariant in
    let S = before.search in
    let pop = c.in-Some.ensures in
    let done = c.in_ok-relax.ensures in
    let bag = states_same _ _ pop.bag in
    let row_is = row_read S bag c.index.result.now c.index.ensures in
    record {
      search = after_examining S bag c.if-node-goal.false (taken_exact before.ready pop.bag) _ row_is done.ok c.requires.graph;
      traced = traced_more S before.traced bag (taken_exact before.ready pop.bag) row_is (low_of _ _ (rw g.met.J.JudgesByOrd.by_ord at pop.greatest)) done.ok done.noted;
      ready = done.ready;
      room = same_room before.room (same_room (record { capacity = pop.capacity; keys = pop.keys }) done.room);
      counted = counted_more before.counted c.pop.new.self before.ready pop.bag S.long pop.counted _ row_is (low_of _ _ (rw g.met.J.JudgesByOrd.by_ord at pop.greatest)) done.ok done.counted;
    }

pub returns-in_err-relax-clause-too_large : goal.returns-in_err-relax-clause-too_large
returns-in_err-relax-clause-too_large g c =
    let S = c.loop-node.invariant.search in
    let pop = c.in-Some.ensures in
    let bag = states_same _ _ pop.bag in
    let row_is = row_read S bag c.index.result.now c.index.ensures in
    let failed = err_from_is_err_and c.from_residual.result c.from_residual.ensures.1 in
    rw failed.1 (too_large S bag c.if-node-goal.false (taken_exact c.loop-node.invariant.ready pop.bag) _ row_is (low_of _ _ (rw g.met.J.JudgesByOrd.by_ord at pop.greatest)) c.in_err-relax.ensures.too_large)

pub returns-in_err-relax-clause-counted : goal.returns-in_err-relax-clause-counted
returns-in_err-relax-clause-counted g c =
    let before = c.loop-node.invariant in
    let pop = c.in-Some.ensures in
    counted_failed before.counted c.pop.new.self before.ready pop.bag before.search.long pop.counted _
    (row_read before.search (states_same _ _ pop.bag) c.index.result.now c.index.ensures) c.in_err-relax.ensures.counted

-- no node waits where the loop ends
ended : (g : _) (c : In_default g) → IsSearch 18446744073709551615 c.args.adj_list.now.items c.args.start c.args.goal c.loop-node.dist []
ended g c =
    let empty = has_none c.loop-node.heap.entries (λ some. let no_entry = c.in_default.ensures.variant.1 some in cc) in
    subst (λ (es : List (ℕ × ℕ)). IsSearch 18446744073709551615 c.args.adj_list.now.items c.args.start c.args.goal c.loop-node.dist (states es)) empty c.loop-node.invariant.search

pub returns-clause-unreached : goal.returns-clause-unreached
returns-clause-unreached g c = none_reached (ended g c)

pub returns-clause-uncritical : goal.returns-clause-uncritical
returns-clause-uncritical g c = none_uncritical (ended g c)

pub returns-clause-counted : goal.returns-clause-counted
returns-clause-counted g c = rw c.in_default.ensures.unchanged (counted_ends c.loop-node.invariant.counted)

pub returns-clause-nearer : goal.returns-clause-nearer
returns-clause-nearer g c = nearer_all (ended g c)
