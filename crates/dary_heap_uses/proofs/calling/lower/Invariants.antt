use Rattle.dary_heap_uses.proofs.{IsSameBag, false, is_written, lender, length, loaned, sum_by, ◌≡◌}
use Rattle.dary_heap_uses.proofs.Lowering.{lowered}
use Rattle.dary_heap_uses.proofs.calling.lower.Given as goal

abbrev pub invariant-loop-greatest : goal.invariant-loop-greatest
invariant-loop-greatest l =
    (lender l.greatest ≡ lender l.initial.greatest)
    × (is_written l.greatest ≡ false)
    × (length (loaned l.greatest).items ≡ length l.fn.heap.items)
    × IsSameBag (lowered l.bound l.fn.heap.items) (lowered l.bound (loaned l.greatest).items)

-- a write lowers the sum of the numbers
abbrev pub decreases-loop-greatest : goal.decreases-loop-greatest
decreases-loop-greatest l = sum_by (λ x. x) (loaned l.greatest).items
