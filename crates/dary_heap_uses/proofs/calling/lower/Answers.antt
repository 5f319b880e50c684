use Rattle.dary_heap_uses.proofs.{Contents, IsSameBag, ap, arith, loaned, rules, subst, sum_falls, sym, ◌∙◌, ℕ}
use Rattle.dary_heap_uses.proofs.Lowering.{lowered, lowered_all, lowered_more}
use Rattle.dary_heap_uses.proofs.calling.lower.Goals as goal

pub loop-greatest-smaller : goal.loop-greatest-smaller
loop-greatest-smaller c = search sum_falls

pub loop-greatest-preserved : goal.loop-greatest-preserved
loop-greatest-preserved c =
    let before = c.loop-greatest.invariant in (
      c.refresh.ensures.same_reference ∙ before.0,
      c.refresh.ensures.settled,
      search (rules, c.refresh.ensures.len, before.2),
      lowered_more c.args.bound c.args.heap.now.items (loaned c.loop-greatest.greatest).items (loaned c.refresh.new.self).items c.deref.result.now before.3 c.deref.ensures (omega (arith, c.loop-greatest-test.true)) c.refresh.ensures.bag,
    )

pub returns-after-loop-greatest-clause-bag : goal.returns-after-loop-greatest-clause-bag
returns-after-loop-greatest-clause-bag c =
    let before = c.loop-greatest.invariant in
    let left = c.drop-greatest.ensures.unwritten before.1 in
    let ordered = rw left at c.drop-greatest.ensures.ordered in
    let all = lowered_all c.args.bound 2 c.args.heap.now.items _ c.deref.result.now before.3 ordered c.deref.ensures (omega (arith, c.loop-greatest-test.false)) in
    let fact = subst (IsSameBag (lowered c.args.bound c.args.heap.now.items)) (sym (ap (λ (heap : Contents ℕ). heap.items) left)) all in
    search (rules, fact)
