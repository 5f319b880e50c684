use Rattle.dary_heap_uses.proofs.{All, All-nil, All-weaker, arith, front_cases, inl, inr, le_from_greatest, nat_cmp_total, pop_if_no, rules, upper_bound, upper_bound_left, ◌<◌, ◌≤◌}
use Rattle.dary_heap_uses.proofs.from_std.highest_from.Goals as goal

-- if the first price is below the bound, so are all
pub returns-in_err-price-clause-none : goal.returns-in_err-price-clause-none
returns-in_err-price-clause-none c =
    let old = c.args.prices.now.items in
    let all : All (λ price. price < c.args.bound) old = elim (front_cases old) [
      | inl empty ↦ rw empty (All-nil (λ price. price < c.args.bound))
      | inr some ↦
          (let no = pop_if_no _ old (rw c.in_err-price.was at c.pop_if.ensures.asked) some.0 some.1 in
          let below : some.0 < c.args.bound = search rules in
          All-weaker (λ price. price ≤ some.0) (λ price. price < c.args.bound) (λ price under. omega (arith, below, under)) old
          (le_from_greatest some.0 old (upper_bound nat_cmp_total old some.0 (c.pop_if.ensures.shown some.0 some.1))))
    ] in
    search (rules, all)

pub returns-clause-above_all : goal.returns-clause-above_all
returns-clause-above_all c = le_from_greatest c.in_ok-price.price _ (upper_bound nat_cmp_total _ _ (rw c.in_ok-price.was at c.pop_if.ensures.greatest))

pub returns-clause-below : goal.returns-clause-below
returns-clause-below c =
    le_from_greatest c.in_ok-price.price _ (upper_bound_left nat_cmp_total _ _ _ (rw c.in_ok-price.was at c.pop_if.ensures.greatest) (rw c.in_ok-price.was at c.pop_if.ensures.bag))
