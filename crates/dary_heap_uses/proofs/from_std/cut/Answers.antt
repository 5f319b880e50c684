use Rattle.dary_heap_uses.proofs.{arith, filter_same, leb, length-filter, length-filter_both, length_permutation, ltb, not, refl, rules, ℕ, ◌≡◌}
use Rattle.dary_heap_uses.proofs.from_std.cut.Goals as goal

above : (limit price : ℕ) → ltb limit price ≡ not (leb price limit)
above limit price = grind arith

pub returns-clause-left : goal.returns-clause-left
returns-clause-left c =
    let kept = c.retain.ensures.retained in
    rw (filter_same _ (λ price. leb price c.args.limit) _ (λ price answer after call. search rules) _ _ (kept.answers, kept.after, kept.all, kept.asked, refl)) at kept.bag

pub returns-clause-cut : goal.returns-clause-cut
returns-clause-cut c =
    let kept = c.retain.ensures.retained in
    let left = rw (filter_same _ (λ price. leb price c.args.limit) _ (λ price answer after call. search rules) _ _ (kept.answers, kept.after, kept.all, kept.asked, refl)) at kept.bag in
    let both = length-filter_both (λ price. leb price c.args.limit) (λ price. ltb c.args.limit price) (above c.args.limit) c.args.prices.now.items in
    omega (arith, c.len-before.ensures.len, c.len.ensures.len, length_permutation _ _ left, both, length-filter (λ price. ltb c.args.limit price) c.args.prices.now.items)
