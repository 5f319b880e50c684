use Rattle.dary_heap.proofs.Common.{◌≡◌, ◌+◌, ◌++◌, ◌≤◌, length, vec_capacity, into_iter_items, into_iter_len, loaned}
use Rattle.dary_heap.specs.PeekMut.{lender}
use Rattle.dary_heap.specs.Reading as read
use Rattle.dary_heap.proofs.run.ServingLoan.{IsHeld}
use Rattle.dary_heap.proofs.run.loan.Given as goal

abbrev pub invariant-loop-act : goal.invariant-loop-act
invariant-loop-act g l = record {
  split : l.fn.acts.items ≡ l.yielded ++ into_iter_items l.act-iterator;
  space : length l.seen.items + into_iter_len l.act-iterator ≤ vec_capacity l.seen;
  held : IsHeld g.T.Ord.cmp g.row.D (loaned l.initial.loan) (loaned l.loan) (read.acts l.yielded) (read.sights l.seen.items);
  same_reference : lender l.loan ≡ lender l.initial.loan;
}
