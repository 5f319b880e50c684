use Rattle.dary_heap.proofs.Common.{◌≡◌, true, false, Some, refl, ◌∙◌, arith}
use Rattle.dary_heap.proofs.heap.DaryHeap.pop_if.Goals as goal

pub returns-then-predicate-clause-asked : goal.returns-then-predicate-clause-asked
returns-then-predicate-clause-asked g c = λ item is.
    let shown = c.in_ok-peek.field-0 in
    let first : Some shown.now ≡ Some item = c.in_ok-peek.ensures.first ∙ is in
    let same : shown.now ≡ item = (cc) in
    (true, (shown, c.if-predicate.ensures, same), c.pop.ensures.first ∙ is)

pub returns-else-predicate-clause-asked : goal.returns-else-predicate-clause-asked
returns-else-predicate-clause-asked g c = λ item is.
    let shown = c.in_ok-peek.field-0 in
    let first : Some shown.now ≡ Some item = c.in_ok-peek.ensures.first ∙ is in
    let same : shown.now ≡ item = (cc) in
    (false, (shown, c.if-predicate.ensures, same), refl)

pub returns-in_err-peek : goal.returns-in_err-peek
returns-in_err-peek g c = grind arith
