use Rattle.dary_heap_uses.proofs.{All-contains, IsPermutation-cons, IsPermutation-trans, arith, le_from_greatest, ◌≤◌, ◌∷◌}
use Rattle.dary_heap_uses.proofs.from_std.lead.Goals as goal

pub returns-clause-lead : goal.returns-clause-lead
returns-clause-lead c =
    let first = c.in_ok-first.first in
    let second = c.in_ok-second.second in
    let under : second ≤ first = All-contains (λ price. price ≤ first) _ second (le_from_greatest first _ c.in_ok-first.ensures.below_top) c.in_ok-second.ensures.greatest.occurs in
    record {
      first = first;
      second = second;
      bag = IsPermutation-trans _ _ _ c.in_ok-first.ensures.bag (IsPermutation-cons first _ (second ∷ c.pop-2.new.self.items) c.in_ok-second.ensures.bag);
      exceeds = omega (arith, under);
      below = le_from_greatest second _ c.in_ok-second.ensures.below_top;
    }
