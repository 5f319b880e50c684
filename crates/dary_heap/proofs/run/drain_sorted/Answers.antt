use Rattle.dary_heap.proofs.{◌≡◌, length, min, refl, sym, ap, arith, is_some, nil_from_length, zero-le, Contents, drained_heap, ℕ, zero, suc, ◌+◌, ◌<◌, ◌≤◌, Bool, List, [], ◌∷◌, ◌∙◌, IsTotalOrder}
use Rattle.dary_heap.proofs.{Ordering, Yields, RisesWithin, pops_bound, Command, Reply, PopsInTurn, Serves, Yields-more, DrainsSorted, ordered_state, read}
use Rattle.dary_heap.proofs.run.Serving.{refused, serves_emptied, serves_same}
use Rattle.dary_heap.proofs.Popping.{keeps_heap_along, pops_bound_step}
use Rattle.dary_heap.specs.declared.iter.drain_sorted.DrainSorted.{DrainSorted}
use Rattle.dary_heap.proofs.run.drain_sorted.Goals as goal

module _ {X J : Type 0} (cmp : X → X → Ordering) {D : ℕ} where
  -- as many as were wanted, or all
  drained_in_turn : IsTotalOrder cmp → (k : ℕ) (first : DrainSorted X D J) (taken : List X) (later : DrainSorted X D J) → Yields (DrainsSorted cmp) first taken later → length taken ≤ k →
      (length taken < k → (drained_heap later).items ≡ []) → PopsInTurn cmp (drained_heap first).items k taken
  drained_in_turn total zero first [] later run few all = refl
  drained_in_turn total zero first (m ∷ taken) later run few all = absurd (omega arith)
  drained_in_turn total (suc k) first [] later run few all = ap (λ (it : DrainSorted X D J). (drained_heap it).items) run ∙ all (omega arith)
  drained_in_turn total (suc k) first (m ∷ taken) later run few all =
      let pop = run.1.0 in
      ((drained_heap run.0).items, (sym pop.first, pop.bag, ordered_state total D _ pop.ordered), drained_in_turn total k run.0 taken later run.2 (omega arith) (λ fewer. all (omega arith)))

  drained_counts : (first : DrainSorted X D J) (taken : List X) (later : DrainSorted X D J) → Yields (DrainsSorted cmp) first taken later →
      (length taken + length (drained_heap later).items ≡ length (drained_heap first).items) ×
      RisesWithin (drained_heap first).comparisons ((drained_heap later).comparisons + pops_bound D (length (drained_heap later).items)) (pops_bound D (length (drained_heap first).items)) ×
      ((drained_heap first).comparisons ≤ (drained_heap later).comparisons) × ((drained_heap later).capacity ≡ (drained_heap first).capacity)
  drained_counts first [] later run = rw run (omega arith, record { rises = omega arith; within = omega arith }, omega arith, refl)
  drained_counts first (m ∷ taken) later run =
      let old = drained_heap first in
      let pop = run.1.0 in
      let h = drained_counts run.0 taken later run.2 in
      let some : 0 < length old.items = omega (arith, pop.greatest.occurs.1) in
      let fewer = rw pop.len at (h.1) in (
        omega (arith, h.0, pop.len),
        record { rises = omega (arith, h.2, pop.counted.rises); within = omega (arith, pop.counted.within, fewer.within, pops_bound_step D (length old.items) some) },
        omega (arith, h.2, pop.counted.rises),
        h.3 ∙ pop.capacity,
      )

-- what an iterator leaves behind its reference is what the heap is then
serves_behind : {X P : Type 0} {cmp : X → X → Ordering} {calls : P → X → Bool → P → Type 0} {D : ℕ} {old new : Contents X} {command : Command X P} {reply : Reply X} (end : Contents X) → new ≡ end →
    Serves cmp calls D old command reply end → Serves cmp calls D old command reply new
serves_behind end same serves = rw same serves

pub returns-in_default : goal.returns-in_default
returns-in_default g c = serves_same refl c.len.ensures.ordered (refused _ c.args.count _ _ c.len.ensures.len c.min-count.ensures c.in_default.ensures.succeeds) tt zero-le refl tt

pub unwrap-requires : goal.unwrap-requires
unwrap-requires g c =
    let before = c.loop.invariant in
    let begun = ap (λ (it : Contents g.row.T.Denot). length it.items) c.drain_sorted-items.ensures.heap in
    let counts = drained_counts g.T.Ord.cmp c.drain_sorted-items.result c.loop.taken.items c.loop.items before.given in
    let first = read (drained_heap c.loop.items).items 0 (omega (arith, c.loop-test.true, c.min-count.ensures, c.len.ensures.len, begun, counts.0, c.loop.taken.ok.0, before.long)) in
    ap is_some (c.next.ensures.steps.0.first ∙ first.1)

pub loop-preserved : goal.loop-preserved
loop-preserved g c =
    let before = c.loop.invariant in
    record {
      given = rw c.push_reserved.ensures.items (Yields-more (DrainsSorted g.T.Ord.cmp) _ _ c.loop.items c.unwrap.result _ before.given (rw c.unwrap.ensures at c.next.ensures.steps));
      long = omega (arith, c.push_reserved.ensures.len, before.long);
      space = omega (arith, c.push_reserved.ensures.capacity, before.space);
    }

pub returns : goal.returns
returns g c =
    let before = c.loop.invariant in
    let old = drained_heap c.drain_sorted-items.result in
    let begun = c.drain_sorted-items.ensures.heap in
    let counts = drained_counts g.T.Ord.cmp c.drain_sorted-items.result c.loop.taken.items c.loop.items before.given in
    let last = c.drop-items.ensures.counted in
    let same = keeps_heap_along g.T.Ord.cmp c.drain_sorted-items.result c.loop.taken.items c.loop.items before.given in
    let items : length c.args.heap.now.items ≡ length old.items = ap (λ (it : Contents g.row.T.Denot). length it.items) (sym begun) in
    let long : length c.loop.taken.items ≡ min c.args.count (length old.items) =
    omega (arith, c.min-count.ensures, c.len.ensures.len, items, c.loop.taken.ok.0, before.long, c.loop.auto.counter-end, c.loop-test.false) in
    let in_turn = drained_in_turn g.T.Ord.cmp g.met.T.Ord.total c.args.count c.drain_sorted-items.result c.loop.taken.items c.loop.items before.given (omega (arith, long))
    (λ fewer. nil_from_length _ (omega (arith, long, counts.0))) in
    let kept = c.drop-items.ensures.capacity ∙ counts.3 in
    rw (← begun) (serves_behind c.drop-items.new.self.0 (search (arith, same))
    (serves_emptied c.drop-items.ensures.items (in_turn, refl) (record { rises = omega (arith, counts.2, last.rises); within = omega (arith, counts.1.within, last.within) }) tt zero-le kept tt))
