use Rattle.dary_heap_uses.proofs.{All-permutation, Contains-permutation, IsNonDecreasingBy-from_sort, IsPermutation-sym, IsPermutation-trans, IsSameBag, ap, arith, get_or, get_or_default, length, sym}
use Rattle.dary_heap_uses.proofs.{◌-◌, ◌<◌, ◌∙◌, ◌≡◌, ◌≤◌}
use Rattle.dary_heap_uses.proofs.from_std.range.Goals as goal

-- the ends of an ascending list of the bag are its range
pub returns-clause-ends : goal.returns-clause-ends
returns-clause-ends c =
    let prices = c.args.prices.items in
    let sorted = c.into_sorted_vec-sorted.result.items in
    let bag : IsSameBag sorted prices = IsPermutation-sym _ _ (IsPermutation-trans prices c.from.result.items sorted c.from.ensures.0.bag c.into_sorted_vec-sorted.ensures.bag) in
    let some : 0 < length sorted = grind (arith, c.is_empty.ensures, c.if-is_empty.false, c.into_sorted_vec-sorted.result.ok.0) in
    let low = c.index.result.now in
    let high = c.index-2.result.now in
    let last : high ≡ get_or sorted (length sorted - 1) high = c.index-2.ensures ∙ ap (λ n. get_or sorted (n - 1) high) (c.len.ensures ∙ c.into_sorted_vec-sorted.result.ok.0) in
    let up = IsNonDecreasingBy-from_sort (λ price. price) sorted c.into_sorted_vec-sorted.ensures.sorted in
    record {
      has_low = Contains-permutation sorted prices low bag (0, some, sym c.index.ensures);
      has_high = Contains-permutation sorted prices high bag (length sorted - 1, omega (arith, some), sym last);
      none_lower = All-permutation (λ price. low ≤ price) sorted prices bag (λ k d within. omega (arith, c.index.ensures, get_or_default sorted 0 low d some, up 0 k d (omega arith) within));
      none_higher = All-permutation (λ price. price ≤ high) sorted prices bag
          (λ k d within. omega (arith, last, get_or_default sorted (length sorted - 1) high d (omega (arith, some)), up k (length sorted - 1) d (omega (arith, within)) (omega (arith, some))));
    }
