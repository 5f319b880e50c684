use Rattle.dary_heap.proofs.Common.{ap, ℕ, ◌<◌, List, length, arith, rules, subst}
use Rattle.indexed_heap.specs.Ways.{IsNamedFrom}
use Rattle.indexed_heap.proofs.shortest_path.Ways.{named_few, named_next, named_none, named_some}
use Rattle.indexed_heap.proofs.shortest_path.walks.steps_back.Goals as goal

pub bounds-prev-node : goal.bounds-prev-node
bounds-prev-node c =
    let here = c.loop-node.invariant c.requires.back.0 c.requires.back.1 in
    (named_next c.args.prev.now c.args.start c.loop-node.node here.0 (named_some c.args.prev.now c.args.start c.loop-node.node here.0 c.loop-node-test.true here.1) here.1).2

pub offset_bounds-prev-node : goal.offset_bounds-prev-node
offset_bounds-prev-node c =
    let here = c.loop-node.invariant c.requires.back.0 c.requires.back.1 in
    let inside : c.loop-node.node < length c.args.prev.now =
    (named_next c.args.prev.now c.args.start c.loop-node.node here.0 (named_some c.args.prev.now c.args.start c.loop-node.node here.0 c.loop-node-test.true here.1) here.1).2 in
    search rules

pub overflow_add-steps : goal.overflow_add-steps
overflow_add-steps c =
    let here = c.loop-node.invariant c.requires.back.0 c.requires.back.1 in
    let few : c.loop-node.steps < length c.args.prev.now =
    omega (arith, here.2, named_few c.args.prev.now c.args.start c.args.goal c.requires.back.0 c.requires.start c.requires.back.1) in
    search rules

pub loop-node-preserved : goal.loop-node-preserved
loop-node-preserved c = λ nodes named.
    let here = c.loop-node.invariant nodes named in
    let next = named_next c.args.prev.now c.args.start c.loop-node.node here.0 (named_some c.args.prev.now c.args.start c.loop-node.node here.0 c.loop-node-test.true here.1) here.1 in
    (next.0, next.3, omega (arith, here.2, ap (λ (l : List ℕ). length l) next.1))

pub returns-clause-steps : goal.returns-clause-steps
returns-clause-steps c = λ nodes named.
    let here = c.loop-node.invariant nodes named in
    let none = named_none c.args.prev.now c.args.start here.0 (subst (λ (x : ℕ). IsNamedFrom c.args.prev.now c.args.start x here.0) c.loop-node-test.false here.1) in
    omega (arith, here.2, ap (λ (l : List ℕ). length l) none)

pub returns-clause-few : goal.returns-clause-few
returns-clause-few c =
    let here = c.loop-node.invariant c.requires.back.0 c.requires.back.1 in
    omega (arith, here.2, named_few c.args.prev.now c.args.start c.args.goal c.requires.back.0 c.requires.start c.requires.back.1)

pub loop-node-smaller : goal.loop-node-smaller
loop-node-smaller c =
    let here = c.loop-node.invariant c.requires.back.0 c.requires.back.1 in
    omega (arith, here.2, named_few c.args.prev.now c.args.start c.args.goal c.requires.back.0 c.requires.start c.requires.back.1)
