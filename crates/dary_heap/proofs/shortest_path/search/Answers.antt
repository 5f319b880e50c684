use Rattle.dary_heap.proofs.{[], ◌∙◌, length, arith, length_permutation, subst, err_from_is_err_and, AreExaminedOnce, lit<, has_none}
use Rattle.dary_heap.proofs.shortest_path.Apart.{no_cheaper}
use Rattle.dary_heap.proofs.shortest_path.Examining.{charged_ends, none_examined, once_few, IsCharged, charged_begins, charged_pop, charged_push, once_begins, once_more, once_part, once_skips}
use Rattle.dary_heap.proofs.shortest_path.Searching.{IsSearch, taken, current, row_read, found_least, found_uncritical, none_reached, none_uncritical, too_large, after_skip, after_examining}
use Rattle.dary_heap.proofs.shortest_path.Searching.{search_begins}
use Rattle.dary_heap.proofs.shortest_path.search.Goals.{In_default-pop, In_err-relax}
use Rattle.dary_heap.proofs.shortest_path.search.Goals as goal

pub loop-cost-init : goal.loop-cost-init
loop-cost-init g c =
    let bag = rw c.requires.empty at c.in-Ok-push.ensures.bag in
    let unexamined = c.add_push.ensures.examined ∙ c.requires.unexamined in
    let nodes = c.len.ensures ∙ c.args.adj_list.now.ok.0 in
    record {
      search = search_begins c.len.result (lit< tt) nodes (rw nodes c.requires.start) (c.in-Ok.ensures.items_if_clones_equal (λ y h. h)) bag;
      once = once_begins _ c.args.start (omega (arith, c.requires.start, c.in-Ok.ensures.len, c.in-Ok.found.ok.0, c.args.adj_list.now.ok.0, c.len.ensures)) bag unexamined;
      pushed = omega (arith, c.requires.unpushed, c.add_push.ensures.pushes);
      charged = rw unexamined (charged_begins c.args.heap.now c.push.new.self c.requires.empty (omega (arith, length_permutation _ _ c.in-Ok-push.ensures.bag)) c.in-Ok-push.ensures.counted);
      room = c.in-Ok-push.ensures.capacity;
    }

pub returns-then-position-goal-clause-least : goal.returns-then-position-goal-clause-least
returns-then-position-goal-clause-least g c = found_least c.loop-cost.invariant.search c.in-Some.ensures.bag (no_cheaper _ _ (rw g.met.J.JudgesByOrd.by_ord at c.in-Some.ensures.greatest)) c.if-position-goal.true

pub returns-then-position-goal-clause-uncritical : goal.returns-then-position-goal-clause-uncritical
returns-then-position-goal-clause-uncritical g c = found_uncritical c.loop-cost.invariant.search c.in-Some.ensures.bag (no_cheaper _ _ (rw g.met.J.JudgesByOrd.by_ord at c.in-Some.ensures.greatest)) c.if-position-goal.true

pub index-requires : goal.index-requires
index-requires g c = rw c.loop-cost.found.ok.0 (taken c.loop-cost.invariant.search c.in-Some.ensures.bag).within

pub loop-cost-preserved-then-cost-index : goal.loop-cost-preserved-then-cost-index
loop-cost-preserved-then-cost-index g c =
    let before = c.loop-cost.invariant in
    record {
      search = after_skip before.search c.in-Some.ensures.bag c.index.result.now c.index.ensures c.if-cost-index.true;
      once = once_skips before.once c.in-Some.ensures.bag;
      pushed = before.pushed;
      charged = charged_pop before.charged c.in-Some.ensures.bag c.in-Some.ensures.counted;
      room = omega (arith, before.room, c.in-Some.ensures.capacity);
    }

pub loop-cost-preserved : goal.loop-cost-preserved
loop-cost-preserved g c =
    let before = c.loop-cost.invariant in
    let pop = c.in-Some.ensures in
    let relaxed = c.in_ok-relax.ensures in
    let same = current before.search pop.bag c.index.result.now c.index.ensures c.if-cost-index.false in
    let row_is = row_read before.search pop.bag c.index-in-Some.result.now c.index-in-Some.ensures in
    record {
      search = after_examining before.search pop.bag c.if-position-goal.false same _ row_is relaxed.ok c.requires.graph;
      once = once_more before.once pop.bag same _ row_is (no_cheaper _ _ (rw g.met.J.JudgesByOrd.by_ord at pop.greatest)) relaxed.ok relaxed.all;
      pushed = omega (arith, before.pushed, relaxed.pushed);
      charged = charged_push (charged_pop before.charged pop.bag pop.counted) relaxed.once;
      room = omega (arith, before.room, pop.capacity, relaxed.room);
    }

pub returns-in_err-relax-clause-too_large : goal.returns-in_err-relax-clause-too_large
returns-in_err-relax-clause-too_large g c =
    let before = c.loop-cost.invariant in
    let pop = c.in-Some.ensures in
    let same = current before.search pop.bag c.index.result.now c.index.ensures c.if-cost-index.false in
    let row_is = row_read before.search pop.bag c.index-in-Some.result.now c.index-in-Some.ensures in
    let failed = err_from_is_err_and c.from_residual.result c.from_residual.ensures.1 in
    rw (failed.1, failed.2) (λ is. too_large before.search pop.bag c.if-position-goal.false same _ row_is (no_cheaper _ _ (rw g.met.J.JudgesByOrd.by_ord at pop.greatest)) (c.in_err-relax.ensures.too_large is))

-- no state waits where the loop ends
ended : (g : _) (c : In_default-pop g) → IsSearch 18446744073709551615 c.args.adj_list.now.items c.args.start c.args.goal c.loop-cost.found.items []
ended g c =
    let empty = has_none c.loop-cost.heap.items (λ some. let no_item = c.in_default-pop.ensures.variant.1 some in cc) in
    subst (IsSearch 18446744073709551615 c.args.adj_list.now.items c.args.start c.args.goal c.loop-cost.found.items) empty c.loop-cost.invariant.search

pub returns-clause-unreached : goal.returns-clause-unreached
returns-clause-unreached g c = none_reached (ended g (goal.at.returns-clause-unreached g c).In_default-pop)

pub returns-clause-uncritical : goal.returns-clause-uncritical
returns-clause-uncritical g c = none_uncritical (ended g (goal.at.returns-clause-uncritical g c).In_default-pop)

-- the first of a node's edges were examined where memory was missing, or a sum too large
stopped : (g : _) (c : In_err-relax g) → AreExaminedOnce c.args.adj_list.now.items c.relax.new.work.examined
stopped g c =
    let before = c.loop-cost.invariant in
    let bag = c.in-Some.ensures.bag in
    let so_far = c.in_err-relax.ensures.once in
    once_part before.once bag (current before.search bag c.index.result.now c.index.ensures c.if-cost-index.false) _
    (row_read before.search bag c.index-in-Some.result.now c.index-in-Some.ensures) so_far.these so_far.others so_far.first so_far.examined

-- what the pushes and pops cost until then
charged : (g : _) (c : In_err-relax g) → IsCharged g.row.D c.args.heap.now.comparisons c.relax.new.heap (length c.relax.new.work.examined)
charged g c = charged_push (charged_pop c.loop-cost.invariant.charged c.in-Some.ensures.bag c.in-Some.ensures.counted) c.in_err-relax.ensures.once

pub returns-in_err-relax-clause-few : goal.returns-in_err-relax-clause-few
returns-in_err-relax-clause-few g c = omega (arith, (charged g (goal.at.returns-in_err-relax-clause-few g c).In_err-relax).few)

pub returns-in_default-clause-once : goal.returns-in_default-clause-once
returns-in_default-clause-once g c = none_examined c.args.adj_list.now.items c.args.work.now.examined c.requires.unexamined

pub returns-in_default-push-clause-once : goal.returns-in_default-push-clause-once
returns-in_default-push-clause-once g c = none_examined c.args.adj_list.now.items c.add_push.new.self.examined (c.add_push.ensures.examined ∙ c.requires.unexamined)

pub returns-then-position-goal-clause-within : goal.returns-then-position-goal-clause-within
returns-then-position-goal-clause-within g c = once_few c.loop-cost.invariant.once.once

pub returns-then-position-goal-clause-counted : goal.returns-then-position-goal-clause-counted
returns-then-position-goal-clause-counted g c = charged_ends {heap = c.pop.new.self} (charged_pop c.loop-cost.invariant.charged c.in-Some.ensures.bag c.in-Some.ensures.counted)

pub returns-in_err-relax-clause-once : goal.returns-in_err-relax-clause-once
returns-in_err-relax-clause-once g c = stopped g (goal.at.returns-in_err-relax-clause-once g c).In_err-relax

pub returns-in_err-relax-clause-within : goal.returns-in_err-relax-clause-within
returns-in_err-relax-clause-within g c = once_few (stopped g (goal.at.returns-in_err-relax-clause-within g c).In_err-relax)

pub returns-in_err-relax-clause-counted : goal.returns-in_err-relax-clause-counted
returns-in_err-relax-clause-counted g c = charged_ends (charged g (goal.at.returns-in_err-relax-clause-counted g c).In_err-relax)

pub returns-clause-within : goal.returns-clause-within
returns-clause-within g c = once_few c.loop-cost.invariant.once.once

pub returns-clause-counted : goal.returns-clause-counted
returns-clause-counted g c = rw c.in_default-pop.ensures.unchanged (charged_ends c.loop-cost.invariant.charged)

pub relax-requires : goal.relax-requires
relax-requires g c = grind arith
