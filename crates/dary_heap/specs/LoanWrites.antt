-- What a write through a loan does.
use Rattle.std.specs.Prelude.{◌≡◌, ℕ, Vec, vec_capacity, slice_set, true}
use Rattle.std.specs.Borrow.{Fml, RattleType, MutBor, Lends}
use Rattle.std.specs.Vec.{with_item}
use Rattle.std.specs.declared.alloc.Global.{Global}
use Rattle.std.proofs.Common.{ap}
use Rattle.std.specs.contracts.alloc.Global as global
use Rattle.std.specs.contracts.vec.Vec as vec
use Rattle.std.specs.contracts.impls.GlobalAllocator.TheImpl as global_impl
use Rattle.dary_heap.specs.Loan.{IsOnLoan, IsOnLoan-prop, IsOnLoan-written}
use Rattle.dary_heap.specs.declared.sift.judge.Judge as judge
use Rattle.dary_heap.specs.declared.peek_mut.PeekMut.{PeekMut}
use Rattle.dary_heap.specs.contracts.peek_mut.PeekMut.{the_row}
use Rattle.dary_heap.specs.contracts.peek_mut.loaned_items.VecLoanedItems.TheImpl as loaned_items_impl
use denote.Param.{value_of}
use mathlib.Core.List.{[]}
use mir.Syntax.{named}

module _ {X J : Type 0} (D : ℕ) (j : judge.Ghosts J X) where
  -- a loan of a heap's vector
  abbrev pub Loan : Type 0
  Loan = PeekMut X D J (Vec X Global) j (record { list = λ v. v.items; room = λ v. vec_capacity v })

  -- the loan once w is written to the first item
  abbrev pub with_first : Loan → X → Loan
  with_first loan w = record {
    heap = loan.heap;
    items = with_item loan.items 0 w;
    written = true;
    on_loan = IsOnLoan-written j.order D loan.written loan.items.items w loan.on_loan;
  }

  -- whichever proof of `IsOnLoan` it has: any two are the same
  pub with_first-is : (loan : Loan) (w : X) (q : IsOnLoan j.order D true (slice_set loan.items.items 0 w)) → record (with_first loan w) { on_loan = q } ≡ with_first loan w
  with_first-is loan w q = ap (λ it. record (with_first loan w) { on_loan = it }) (IsOnLoan-prop j.order D true (slice_set loan.items.items 0 w) q (with_first loan w).on_loan)

module _ (T D J : RattleType) (j : judge.Ghosts J.Denot T.Denot) where
  -- a loan as the logic holds it, under the signature's second lifetime
  abbrev pub loan_row : RattleType
  loan_row = the_row (record { mir = named 1; lft = [] }) T D J (vec.the_row T global.the_row global_impl.ghosts) j (loaned_items_impl.ghosts T)

  -- once the borrow r ends, the loan has the last value written through r as its first item
  abbrev pub lends_first : MutBor loan_row.Denot → MutBor T.Denot → Fml
  lends_first loan r = Lends loan_row T loan r (with_first {X = T.Denot} {J = J.Denot} (value_of D) j loan.now)
