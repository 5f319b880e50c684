use Rattle.dary_heap.proofs.Common.{◌≡◌, Bool, true, false, Some, None, if◌then◌else◌, refl, rules, ◌∙◌, subst}
use Rattle.dary_heap.specs.Bag.{IsGreatest}
use Rattle.named_heap.specs.Entries.{MayAnswer, by_item}
use Rattle.named_heap.proofs.heap.NamedHeap.pop_if.Goals as goal

pub predicate-requires : goal.predicate-requires
predicate-requires g c =
    let name = c.in_ok-name.name in let item = c.in_ok-name.item in
    let may = c.requires (name.now, item.now) c.in_ok-name.ensures.first name item refl refl in
    search (rules, may)

pub returns-then-predicate-clause-asked : goal.returns-then-predicate-clause-asked
returns-then-predicate-clause-asked g c = λ entry is.
    let name = c.in_ok-name.name in let item = c.in_ok-name.item in
    let first = c.in_ok-name.ensures.first in
    let same : (name.now, item.now) ≡ entry = (cc) in
    subst (λ (e : g.row.K.Denot × g.row.T.Denot). (answer : Bool) × MayAnswer g.F.FnOnce c.args.predicate e answer × (c.pop.result ≡ (if answer then Some e else None))) same
    (true, (name, item, c.if-predicate.ensures, refl, refl), c.pop.ensures.first ∙ first)

pub returns-else-predicate-clause-asked : goal.returns-else-predicate-clause-asked
returns-else-predicate-clause-asked g c = λ entry is.
    let name = c.in_ok-name.name in let item = c.in_ok-name.item in
    let first = c.in_ok-name.ensures.first in
    let same : (name.now, item.now) ≡ entry = (cc) in
    subst (λ (e : g.row.K.Denot × g.row.T.Denot). (answer : Bool) × MayAnswer g.F.FnOnce c.args.predicate e answer × (None ≡ (if answer then Some e else None))) same
    (false, (name, item, c.if-predicate.ensures, refl, refl), refl)

pub returns-then-predicate-clause-shown : goal.returns-then-predicate-clause-shown
returns-then-predicate-clause-shown g c = λ entry is.
    let first = c.in_ok-name.ensures.first in
    let same : (c.in_ok-name.name.now, c.in_ok-name.item.now) ≡ entry = (cc) in
    subst (λ (e : g.row.K.Denot × g.row.T.Denot). IsGreatest (by_item g.J.Judge.order) c.args.self.now.entries e) same c.in_ok-name.ensures.greatest

pub returns-else-predicate-clause-shown : goal.returns-else-predicate-clause-shown
returns-else-predicate-clause-shown g c = λ entry is.
    let first = c.in_ok-name.ensures.first in
    let same : (c.in_ok-name.name.now, c.in_ok-name.item.now) ≡ entry = (cc) in
    subst (λ (e : g.row.K.Denot × g.row.T.Denot). IsGreatest (by_item g.J.Judge.order) c.args.self.now.entries e) same c.in_ok-name.ensures.greatest
