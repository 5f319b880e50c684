use Rattle.dheap.proofs.Common.{◌≡◌, All, is_some, true, take, Appends, append_known, answer, text}
use Rattle.dary_heap.specs.Reading as read
use Rattle.dheap.proofs.serve.answers.write_answers.Given as goal

-- the lines of those before this place are written or buffered
abbrev pub invariant-loop-reply : goal.invariant-loop-reply
invariant-loop-reply g l =
    let done = read.replies (take l.reply-index l.replies) in
    record {
      whole : All (λ reply. is_some (answer reply) ≡ true) done;
      written : Appends (g.W.Write.contents l.fn.output) (append_known (g.W.Write.contents l.output) l.buffer.items) (text done);
    }
