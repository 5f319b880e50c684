use Rattle.std.proofs.Math.Seq.{take-nil}
use Rattle.std.proofs.lemmas.List.{take-replicate}
use Rattle.indexed_heap.specs.Ways.{IsWayOf}
use Rattle.dary_heap.proofs.Common.{◌∙◌, ◌++◌, ◌-◌, length-replicate, length-set, take-set-le, vec_len, ◌≡◌, ap, ℕ, ◌+◌, ◌<◌, List, length, arith, rules, refl, sym, subst, replicate, take, IsDistinct, nat_eq}
use Rattle.indexed_heap.proofs.shortest_path.Ways.{named_next, read_begins, read_ends, read_more, way_once}
use Rattle.indexed_heap.proofs.shortest_path.walks.path_to.Goals as goal

pub loop-steps-init : goal.loop-steps-init
loop-steps-init c =
    let many : c.steps_back-steps.result + 1 - vec_len c.clear.new.self ≡ c.steps_back-steps.result + 1 = omega (arith, c.clear.ensures.len) in
    let made : c.resize.new.self.items ≡ replicate (c.steps_back-steps.result + 1) c.args.start =
    c.in_ok-resize.ensures.items
    ∙ ap (λ (l : List ℕ). take (c.steps_back-steps.result + 1) l ++ replicate (c.steps_back-steps.result + 1 - vec_len c.clear.new.self) c.args.start) c.clear.ensures.items
    ∙ rw (many, take-nil {A = ℕ} (c.steps_back-steps.result + 1)) refl in
    let long : length c.resize.new.self.items ≡ c.steps_back-steps.result + 1 = ap (λ (l : List ℕ). length l) made ∙ length-replicate (c.steps_back-steps.result + 1) c.args.start in
    record {
      capacity = omega (arith, c.in_ok-resize.ensures.capacity, c.clear.ensures.capacity);
      within = omega (arith, long);
      first = ap (take 1) made ∙ take-replicate 1 (c.steps_back-steps.result + 1) c.args.start (omega arith);
      read = λ nodes named. read_begins c.args.prev.now c.args.start c.args.goal c.steps_back-steps.result c.resize.new.self.items nodes named (c.steps_back-steps.ensures.steps nodes named) long;
    }

pub loop-steps-preserved : goal.loop-steps-preserved
loop-steps-preserved c =
    let before = c.loop-steps.invariant in
    record {
      capacity = before.capacity;
      within = omega (arith, before.within, length-set c.loop-steps.nodes.items c.loop-steps.steps c.loop-steps.node);
      first = take-set-le 1 c.loop-steps.nodes.items c.loop-steps.steps c.loop-steps.node c.loop-steps-test.true ∙ before.first;
      read = λ nodes named.
          read_more c.args.prev.now c.args.start c.args.goal c.loop-steps.steps c.loop-steps.node c.loop-steps.nodes.items nodes c.loop-steps-test.true before.within (before.read nodes named);
    }

pub bounds-prev-node : goal.bounds-prev-node
bounds-prev-node c =
    let h = c.loop-steps.invariant.read c.requires.back.0 c.requires.back.1 in
    (named_next c.args.prev.now c.args.start c.loop-steps.node h.rest (omega (arith, h.left, c.loop-steps-test.true)) h.named).2

pub offset_bounds-prev-node : goal.offset_bounds-prev-node
offset_bounds-prev-node c =
    let h = c.loop-steps.invariant.read c.requires.back.0 c.requires.back.1 in
    let inside : c.loop-steps.node < length c.args.prev.now = (named_next c.args.prev.now c.args.start c.loop-steps.node h.rest (omega (arith, h.left, c.loop-steps-test.true)) h.named).2 in
    search rules

pub returns-clause-read : goal.returns-clause-read
returns-clause-read c = λ named led.
    read_ends c.args.prev.now c.args.start c.args.goal c.loop-steps.steps c.loop-steps.node c.loop-steps.nodes.items named (omega (arith, c.loop-steps-test.false)) c.loop-steps.invariant.first
    (c.loop-steps.invariant.read named led)

pub returns-clause-way : goal.returns-clause-way
returns-clause-way c = λ g cost led.
    let is = read_ends c.args.prev.now c.args.start c.args.goal c.loop-steps.steps c.loop-steps.node c.loop-steps.nodes.items led.nodes (omega (arith, c.loop-steps-test.false)) c.loop-steps.invariant.first
    (c.loop-steps.invariant.read led.nodes led.named) in
    subst (λ (l : List ℕ). IsWayOf g c.args.start c.args.goal l cost) (sym is) led.way

pub returns-clause-once : goal.returns-clause-once
returns-clause-once c =
    let named = c.requires.back.0 in
    let is = read_ends c.args.prev.now c.args.start c.args.goal c.loop-steps.steps c.loop-steps.node c.loop-steps.nodes.items named (omega (arith, c.loop-steps-test.false)) c.loop-steps.invariant.first
    (c.loop-steps.invariant.read named c.requires.back.1) in
    subst (λ (l : List ℕ). IsDistinct nat_eq l) (sym is) (way_once c.args.prev.now c.args.start c.args.goal named c.requires.back.1)

pub returns-clause-capacity : goal.returns-clause-capacity
returns-clause-capacity c = c.loop-steps.invariant.capacity

pub index_mut-requires : goal.index_mut-requires
index_mut-requires c = omega (arith, c.loop-steps.invariant.within, c.loop-steps.nodes.ok.0)
