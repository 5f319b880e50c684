use Rattle.dary_heap.proofs.{ap, arith, inr, le_refl, refl, zero-le, same_state}
use Rattle.dary_heap.specs.Reading as read
use Rattle.dary_heap.proofs.run.Serving.{asks, pops_where, retained, serves_emptied, serves_same}
use Rattle.dary_heap.proofs.run.carry_out.Goals as goal

pub pop_if-requires : goal.pop_if-requires
pop_if-requires g c =
    (assumption, c.requires.pop_if c.in-PopIf.predicate (ap read.command c.in-PopIf.is))

pub ask-requires : goal.ask-requires
ask-requires g c =
    (assumption, c.requires.ask c.in-Ask.predicate (ap read.command c.in-Ask.is))

pub retain-requires : goal.retain-requires
retain-requires g c =
    (assumption, inr (c.requires.retain c.in-Retain.predicate (ap read.command c.in-Retain.is)))

pub returns-in-PopIf : goal.returns-in-PopIf
returns-in-PopIf g c =
    let e = c.pop_if.ensures in
    rw c.in-PopIf.is (pops_where g.P.FnMut g.met.P.FnMut.1.post_iff g.met.T.Ord.total c.args.heap.now c.pop_if.new.self c.in-PopIf.predicate c.pop_if.result e.asked e.greatest e.bag e.ordered
    e.counted e.capacity e.unchanged)

pub returns-in-Ask : goal.returns-in-Ask
returns-in-Ask g c =
    let e = c.ask.ensures in
    rw c.in-Ask.is (asks g.P.FnMut g.met.P.FnMut.1.post_iff c.args.heap.now c.in-Ask.predicate c.ask.result e.empty e.asked e.ordered)

pub returns-in-Push : goal.returns-in-Push
returns-in-Push g c = rw c.in-Push.is (assumption c.push.ensures)

pub returns-in-Pop : goal.returns-in-Pop
returns-in-Pop g c = rw c.in-Pop.is (assumption c.pop.ensures)

pub returns-in-Len : goal.returns-in-Len
returns-in-Len g c = let e = c.len.ensures in rw c.in-Len.is (serves_same refl e.ordered (e.len, same_state _ _ refl) tt (le_refl _) refl tt)

pub returns-in-Retain : goal.returns-in-Retain
returns-in-Retain g c = let e = c.retain.ensures in rw c.in-Retain.is (retained g.met.T.Ord.total _ _ _ e.retained e.ordered e.capacity)

pub returns-in-Extend : goal.returns-in-Extend
returns-in-Extend g c = rw c.in-Extend.is (assumption c.extend.ensures)

pub returns-in-Append : goal.returns-in-Append
returns-in-Append g c = rw c.in-Append.is (assumption c.append.ensures)

pub returns-in-Reserve : goal.returns-in-Reserve
returns-in-Reserve g c = rw c.in-Reserve.is (assumption c.reserve.ensures)

pub returns-in-Shrink : goal.returns-in-Shrink
returns-in-Shrink g c = rw c.in-Shrink.is (assumption c.shrink.ensures)

pub returns-in-Clear : goal.returns-in-Clear
returns-in-Clear g c =
    let e = c.clear.ensures in
    rw c.in-Clear.is (serves_emptied e.items refl (record { rises = omega (arith, e.uncounted); within = omega (arith, e.uncounted) }) tt zero-le e.capacity tt)

pub returns-in-Drain : goal.returns-in-Drain
returns-in-Drain g c = rw c.in-Drain.is (assumption c.drain.ensures)

pub returns-in-DrainSorted : goal.returns-in-DrainSorted
returns-in-DrainSorted g c = rw c.in-DrainSorted.is (assumption c.drain_sorted.ensures)

pub returns-in-Loan : goal.returns-in-Loan
returns-in-Loan g c = rw c.in-Loan.is (assumption c.loan.ensures)

pub push-requires : goal.push-requires
push-requires g c = assumption

pub pop-requires : goal.pop-requires
pop-requires g c = assumption

pub extend-requires : goal.extend-requires
extend-requires g c = assumption

pub append-requires : goal.append-requires
append-requires g c = assumption

pub reserve-requires : goal.reserve-requires
reserve-requires g c = assumption

pub shrink-requires : goal.shrink-requires
shrink-requires g c = assumption

pub drain-requires : goal.drain-requires
drain-requires g c = assumption

pub drain_sorted-requires : goal.drain_sorted-requires
drain_sorted-requires g c = assumption

pub loan-requires : goal.loan-requires
loan-requires g c = assumption
