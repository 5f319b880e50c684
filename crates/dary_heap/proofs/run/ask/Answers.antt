use Rattle.dary_heap.proofs.Common.{◌≡◌, Some, refl, ◌∙◌}
use Rattle.dary_heap.proofs.run.ask.Goals as goal

pub returns-clause-asked : goal.returns-clause-asked
returns-clause-asked g c = λ item is.
    let shown = c.in_ok-peek.field-0 in
    let first : Some shown.now ≡ Some item = c.in_ok-peek.ensures.first ∙ is in
    let same : shown.now ≡ item = (cc) in
    (c.predicate.result, (shown, c.predicate.ensures, same), refl)
