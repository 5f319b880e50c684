use Rattle.dary_heap.proofs.Common.{ap, sym, ◌∙◌, true≢false}
use Rattle.std.specs.Prelude.{min}
use Rattle.dary_heap.proofs.iter.InOrder.{gives_greatest}
use Rattle.named_heap.specs.Entries.{by_item}
use Rattle.named_heap.specs.Iterating.{shown}
use Rattle.named_heap.proofs.InOrder.{keyed_start, starts_named}
use Rattle.named_heap.proofs.Naming.{keyed_of, length_of}
use Rattle.named_heap.proofs.heap.NamedHeap.iter_sorted.Goals as goal

pub returns-in_err-iter_sorted-clause-succeeds : goal.returns-in_err-iter_sorted-clause-succeeds
returns-in_err-iter_sorted-clause-succeeds g c =
    let long = length_of c.self.inside.names.keys c.self.inside.heap.entries c.self.invariant in
    rw (← c.self.view_is) (λ few clones. absurd (true≢false (sym (c.in_err-iter_sorted.ensures.succeeds (ap (min c.args.most) (sym long) ∙ few) clones))))

pub invariant_of-result : goal.invariant_of-result
invariant_of-result g c =
    let names = c.self.inside.names.keys in let entries = c.self.inside.heap.entries in
    rw c.as_slice.ensures.keys (keyed_start names g.row.D c.args.most entries c.in_ok-iter_sorted.field-0 (keyed_of names entries c.self.invariant) c.in_ok-iter_sorted.ensures.starts)

pub returns-clause-starts : goal.returns-clause-starts
returns-clause-starts g c =
    let names = c.self.inside.names.keys in let entries = c.self.inside.heap.entries in
    rw (← c.self.view_is) (rw c.as_slice.ensures.keys (starts_named names g.row.D c.args.most entries c.in_ok-iter_sorted.field-0 (keyed_of names entries c.self.invariant)
    c.in_ok-iter_sorted.ensures.starts))

pub returns-clause-greatest : goal.returns-clause-greatest
returns-clause-greatest g c = gives_greatest shown (by_item g.J.Judge.order) g.row.D _
