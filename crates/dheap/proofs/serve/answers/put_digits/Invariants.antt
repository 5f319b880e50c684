use Rattle.dheap.proofs.Common.{◌≡◌, ℕ, suc, ◌+◌, ◌++◌, ◌^◌, ◌<◌, ◌≤◌, drop, decimal}
use Rattle.dheap.proofs.serve.answers.put_digits.Given as goal

-- the digits from this place on are put, and there is room for the others and a sign
abbrev pub invariant-loop-rest : goal.invariant-loop-rest
invariant-loop-rest l = record {
  low : 2 ≤ l.begin;
  high : l.begin ≤ 21;
  fits : (k : ℕ) × (l.begin ≡ k + 2) × (l.rest < 10 ^ suc k);
  put : decimal l.rest ++ drop l.begin l.line ≡ decimal l.fn.size ++ drop 21 l.fn.line;
}

abbrev pub decreases-loop-rest : goal.decreases-loop-rest
decreases-loop-rest l = l.rest
