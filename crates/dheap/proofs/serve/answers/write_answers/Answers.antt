use Rattle.dheap.proofs.Common.{true≢false, refl, sym, ap, subst, subst₂, ◌∙◌, ◌+◌, ◌++◌, append-nil, take, Appends, append_known, text}
use Rattle.dary_heap.specs.Reading as read
use Rattle.dheap.proofs.Written.{whole-next, text-next, buffered, buffer_flushed, line-none, all_flushed, answered-end, answered-here, none_written, not-whole}
use Rattle.dheap.proofs.serve.answers.write_answers.Goals.{then-len-ge-FLUSH_THRESHOLD+in_ok-flush_buffer-2, else-len-ge-FLUSH_THRESHOLD}
use Rattle.dheap.proofs.serve.answers.write_answers.Goals as goal

pub loop-reply-preserved : goal.loop-reply-preserved
loop-reply-preserved g c =
    let contents = g.W.Write.contents in
    let told = sym c.in_ok-write_reply.ensures.told ∙ c.if-not-branch.false in
    let line = buffered _ _ _ _ _ _ c.loop-reply.invariant.written c.in_ok-write_reply.ensures.written in
    let all = subst (Appends _ _) (sym (text-next _ _ _ c.loop-reply-test.true c.reply-item.is)) line in
    record {
      whole = whole-next _ _ _ c.loop-reply-test.true c.reply-item.is told c.loop-reply.invariant.whole;
      written = elim c.if-len-ge-FLUSH_THRESHOLD.branch [
        | then-len-ge-FLUSH_THRESHOLD+in_ok-flush_buffer-2 w ↦
            subst₂ (λ o h. Appends (contents c.args.output.now) (append_known (contents o) h.items) (text (read.replies (take (c.loop-reply.reply-index + 1) c.args.replies.now))))
            (sym w.output-is) (sym w.buffer-is) (buffer_flushed _ _ _ _ _ _ all w.in_ok-flush_buffer-2.ensures.passed w.in_ok-flush_buffer-2.ensures.none)
        | else-len-ge-FLUSH_THRESHOLD w ↦
            subst₂ (λ o h. Appends (contents c.args.output.now) (append_known (contents o) h.items) (text (read.replies (take (c.loop-reply.reply-index + 1) c.args.replies.now))))
            (sym w.output-is) (sym w.buffer-is) all
      ];
    }

pub returns-then-not-branch-clause-whole : goal.returns-then-not-branch-clause-whole
returns-then-not-branch-clause-whole g c =
    let none = sym c.in_ok-write_reply.ensures.told ∙ c.if-not-branch.true in
    (λ true. absurd (true≢false (sym true)), λ whole. not-whole _ _ _ c.loop-reply-test.true c.reply-item.is none whole)

pub returns-then-not-branch-clause-written : goal.returns-then-not-branch-clause-written
returns-then-not-branch-clause-written g c =
    let none = sym c.in_ok-write_reply.ensures.told ∙ c.if-not-branch.true in
    all_flushed _ _ _ _ _ _ _ (read.replies c.args.replies.now) c.loop-reply.invariant.written
    (c.in_ok-write_reply.ensures.written ∙ ap (λ says. c.loop-reply.buffer.items ++ says) (line-none _ none) ∙ append-nil c.loop-reply.buffer.items)
    c.in_ok-flush_buffer.ensures.passed c.in_ok-flush.ensures.bytes (answered-here _ _ _ c.loop-reply-test.true c.reply-item.is none c.loop-reply.invariant.whole)

pub returns-clause-written : goal.returns-clause-written
returns-clause-written g c =
    none_written (g.W.Write.contents c.args.output.now) c.args.replies.now c.first-item.result c.in-len1-up.len_at_least c.first-item.is (sym c.has_answer.ensures ∙ c.if-not-has_answer.true)

pub returns-2-clause-written : goal.returns-2-clause-written
returns-2-clause-written g c =
    all_flushed _ _ _ _ _ _ _ (read.replies c.args.replies.now) c.loop-reply.invariant.written refl c.in_ok-flush_buffer-3.ensures.passed c.in_ok-flush-2.ensures.bytes
    (answered-end _ _ c.loop-reply-test.false c.loop-reply.invariant.whole)
