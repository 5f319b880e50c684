use Rattle.dary_heap.proofs.{◌≡◌, ◌++◌, ◌∷◌, [], length, refl, sym, ap, ◌∙◌, arith, append_assoc, append-nil, length-append, slice_set, map-append, length-map, nil_from_length, into_iter_items}
use Rattle.dary_heap.proofs.{eqb-false, eqb-true, loaned, true≢false, zero-le, same_state}
use Rattle.dary_heap.specs.Reading as read
use Rattle.dary_heap.proofs.run.Serving.{serves_same}
use Rattle.dary_heap.proofs.run.ServingLoan.{IsHeld, IsHeld-begins, IsHeld-write, IsHeld-refresh, put_back, taken_out}
use Rattle.dary_heap.proofs.run.loan.Goals as goal
use Rattle.dary_heap.proofs.run.loan.Given.{Over}
use Rattle.dary_heap.proofs.run.loan.Goals.{Joined-end, in-Write, in-Refresh, in-Drop, in-Pop}

pub returns-then-is_empty : goal.returns-then-is_empty
returns-then-is_empty g c =
    let none = nil_from_length c.args.heap.now.items (eqb-true _ 0 (sym c.if-is_empty.ensures.empty)) in
    serves_same refl c.if-is_empty.ensures.ordered (none, none) tt zero-le refl tt

pub returns-in_default : goal.returns-in_default
returns-in_default g c =
    let some = eqb-false _ 0 (sym c.if-is_empty.ensures.empty) in
    let failed = λ (none : c.len.result ≡ 0). true≢false (sym (c.in_default.ensures.succeeds none)) in
    serves_same refl c.if-is_empty.ensures.ordered (
      (λ none. some (ap length none)),
      (λ none. failed (c.len.ensures ∙ c.args.acts.ok.0 ∙ sym (length-map c.args.acts.items read.act) ∙ ap length none)),
      same_state _ _ refl,
    ) tt zero-le refl tt

pub loop-act-init : goal.loop-act-init
loop-act-init g c =
    let gives = c.into_iter-act-iterator.ensures.into_iter_gives in
    record {
      split = sym gives.0;
      space = omega (arith, ap length c.in-Ok.ensures.items, gives.1, c.len.ensures, c.in-Ok.ensures.capacity);
      held = rw c.in-Ok.ensures.items (IsHeld-begins (loaned c.unwrap-loan.result) c.unwrap-loan.result.on_loan.some);
      same_reference = refl;
    }

pub loop-act-preserved : goal.loop-act-preserved
loop-act-preserved g c =
    let before = c.loop-act.invariant in
    let steps = c.in-Some.ensures.steps in
    let yielded = c.loop-act.yielded in
    let act = c.in-Some.act in
    let seen = c.loop-act.seen.items in
    let shown = c.match-act.push_reserved in
    record {
      split = before.split ∙ ap (λ xs. yielded ++ xs) steps.0 ∙ sym (append_assoc yielded (act ∷ []) (into_iter_items c.next.new.self));
      space = omega (arith, ap length c.push_reserved.ensures.items, length-append seen (shown ∷ []), c.push_reserved.ensures.capacity, steps.1, before.space);
      held = rw (c.push_reserved.ensures.items, map-append read.act yielded (act ∷ []), map-append read.sight seen (shown ∷ [])) (elim c.match-act.branch [
        | in-Write w ↦ rw (w.in-Write.is, w.push_reserved-is, w.replace.ensures.value, w.loan-is)
            (IsHeld-write before.held _ w.in-Write.item w.deref_mut.result.now w.deref_mut.ensures.first (ap (slice_set (loaned c.loop-act.loan).items 0) w.replace.ensures.after) refl refl)
        | in-Refresh w ↦ let h = w.refresh.ensures in
            rw (w.in-Refresh.is, w.push_reserved-is, w.loan-is) (IsHeld-refresh before.held _ w.refresh.result h.moved h.bag h.greatest h.unmoved h.counted h.capacity)
      ]);
      same_reference = elim c.match-act.branch [
        | in-Write w ↦ rw w.loan-is before.same_reference
        | in-Refresh w ↦ rw w.loan-is (w.refresh.ensures.same_reference ∙ before.same_reference)
      ];
    }

-- what the loan did before its end
held : (g : Over) (c : Joined-end g) → IsHeld g.T.Ord.cmp g.row.D c.args.heap.now (loaned c.loop-act.loan) (read.acts c.args.acts.items) (read.sights c.loop-act.seen.items)
held g c =
    let before = c.loop-act.invariant in
    let begun : loaned c.unwrap-loan.result ≡ c.args.heap.now = rw c.unwrap-loan.ensures at c.peek_mut.ensures.loaned in
    let rest : into_iter_items c.loop-act.act-iterator ≡ [] = nil_from_length _ (sym c.loop-act.act-iterator.rest.ok.0 ∙ c.in-None.ensures.steps.0) in
    let all : c.args.acts.items ≡ c.loop-act.yielded = before.split ∙ ap (λ xs. c.loop-act.yielded ++ xs) rest ∙ append-nil c.loop-act.yielded in
    rw (← begun, all) before.held

pub returns : goal.returns
returns g c =
    let begun = rw c.unwrap-loan.ensures at c.peek_mut.ensures.same_reference in
    let same = sym (c.loop-act.invariant.same_reference ∙ begun) in
    elim c.match-end.branch [
      | in-Drop w ↦
          let h = w.drop.ensures in
          rw (w.in-Drop.is, w.popped-is) (put_back (held g c) w.drop.new.self.0 c.match-end.heap (w.heap-is ∙ search (arith, same)) h.ordered h.capacity g.met.T.Ord.total h.counted h.bag h.first)
      | in-Pop w ↦
          let h = w.pop.ensures in
          let back = w.heap-is ∙ search (arith, same) in
          rw (w.in-Pop.is, w.popped-is) (taken_out (held g c) w.pop.new.this.0 c.match-end.heap back h.ordered h.capacity g.met.T.Ord.total w.pop.result h.counted h.first h.bag)
    ]
