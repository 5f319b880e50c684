use Rattle.dheap.proofs.Common.{rules, ap, subst, tests, MayPrint, Say, lines_of}
use Rattle.dary_heap.specs.Reading as read
use Rattle.dheap.proofs.Bounds.{may_print_by}
use Rattle.dheap.proofs.Written.{printed_by}
use Rattle.dheap.proofs.serve.run_script.Goals as goal

pub returns-clause-printed : goal.returns-clause-printed
returns-clause-printed g c =
    let (lines, say, carry) = c.in_ok-commands.ensures.said in
    let whole = c.in_ok-write_answers.ensures.whole.0 c.if-not-branch.false in
    printed_by (MayPrint c.args.script.items) _ _ _ whole c.in_ok-write_answers.ensures.written
    (may_print_by c.args.script.items lines (subst (λ xs. Say (lines_of xs) lines) c.as_slice.ensures.value say) carry c.in-Ok.ensures.runs c.new-heap.ensures.items
    (ap (λ rs. read.replies rs) c.as_slice-2.ensures.value) whole (λ n p x a q m k. (search (rules, tests), search (rules, tests))))
