use Rattle.dary_heap.proofs.Common.{refl, length, slice_get_read, IsOnLoan-written}
use Rattle.dary_heap.specs.LoanWrites.{with_first-is}
use Rattle.dary_heap.proofs.peek_mut.methods.PeekMutDerefMut.deref_mut.Goals as goal

pub returns : goal.returns
returns g c =
    let loan = c.args.self.now in
    let xs = loan.items.items in (
      (refl, λ w. with_first-is g.row.D g.J.Judge loan w _),
      record { writes_back = tt; first = slice_get_read xs (length xs) 0 c.index_mut.result.now refl loan.on_loan.some c.index_mut.ensures.value },
    )

pub invariant_of-self-lent : goal.invariant_of-self-lent
invariant_of-self-lent g c =
    let loan = c.args.self.now in
    λ w. (IsOnLoan-written g.J.Judge.order g.row.D loan.written loan.items.items w loan.on_loan, tt)
