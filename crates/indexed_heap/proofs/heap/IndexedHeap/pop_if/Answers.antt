use Rattle.std.proofs.lemmas.Grind.{common_steps}
use Rattle.dary_heap.proofs.Common.{◌≡◌, arith, ℕ, Bool, true, false, Some, None, if◌then◌else◌, refl, ◌∙◌, subst}
use Rattle.indexed_heap.specs.Entries.{MayAnswer}
use Rattle.indexed_heap.proofs.heap.IndexedHeap.pop_if.Goals as goal

pub returns-then-predicate-clause-asked : goal.returns-then-predicate-clause-asked
returns-then-predicate-clause-asked g c = λ entry is.
    let shown = c.in_ok-key.item in
    let first = c.in_ok-key.ensures.first in
    let same : (c.in_ok-key.key, shown.now) ≡ entry = (cc) in
    subst (λ (e : ℕ × g.row.T.Denot). (answer : Bool) × MayAnswer g.F.FnOnce c.args.predicate e answer × (c.pop.result ≡ (if answer then Some e else None))) same
    (true, (shown, c.if-predicate.ensures, refl), c.pop.ensures.first ∙ first)

pub returns-else-predicate-clause-asked : goal.returns-else-predicate-clause-asked
returns-else-predicate-clause-asked g c = λ entry is.
    let shown = c.in_ok-key.item in
    let first = c.in_ok-key.ensures.first in
    let same : (c.in_ok-key.key, shown.now) ≡ entry = (cc) in
    subst (λ (e : ℕ × g.row.T.Denot). (answer : Bool) × MayAnswer g.F.FnOnce c.args.predicate e answer × (None ≡ (if answer then Some e else None))) same
    (false, (shown, c.if-predicate.ensures, refl), refl)

pub returns-then-predicate-clause-shown : goal.returns-then-predicate-clause-shown
returns-then-predicate-clause-shown g c = grind (arith, common_steps)

pub returns-else-predicate-clause-shown : goal.returns-else-predicate-clause-shown
returns-else-predicate-clause-shown g c = grind (arith, common_steps)
