use Rattle.dheap.proofs.Common.{rules, tests, ◌==◌, not, length, is_blank}
use Rattle.std.proofs.lemmas.Iterator.Consumers.{YieldsList-at, YieldsList-from_filter}
use Rattle.std.proofs.lemmas.Iterator.Splits.{YieldsList-from_slice_split}
use Rattle.dheap.proofs.Parting.{three}
use Rattle.dheap.proofs.serve.script.line.first_words.Goals as goal

pub returns : goal.returns
returns c =
    three _ _ _ _ _ _ _ c.next-first.ensures.steps c.next-second.ensures.steps c.next-third.ensures.steps
    (YieldsList-from_filter _ (λ word. not (length word == 0))
    (YieldsList-at c.filter-words.ensures.source (YieldsList-from_slice_split _ is_blank c.args.line.now c.split.ensures.rest c.split.ensures.done c.split.ensures.closure
    (λ x b q k. (search (rules, tests), search (rules, tests)))))
    c.filter-words.ensures.closure (λ x b q k. (search (rules, tests), search (rules, tests))))
