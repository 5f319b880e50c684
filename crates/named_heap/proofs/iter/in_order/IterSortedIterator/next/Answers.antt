use Rattle.std.proofs.Common.{◌<◌, length, refl, rules}
use Rattle.std.proofs.lemmas.Option.{slice_get-get_or}
use Rattle.named_heap.proofs.InOrder.{gives_some, keyed_given, keyed_rest}
use Rattle.named_heap.proofs.iter.in_order.IterSortedIterator.next.Goals as goal

pub bounds-self-inside-key : goal.bounds-self-inside-key
bounds-self-inside-key g c =
    let step = c.in_ok-key.ensures.steps in
    keyed_given c.self.inside.names.now g.J.Judge.order g.row.D c.self.inside.rest c.next.new.self c.in_ok-key.key c.in_ok-key.item step (c.self.invariant (step.variant.0 refl))

pub offset_bounds-self-inside-key : goal.offset_bounds-self-inside-key
offset_bounds-self-inside-key g c = let inside : c.in_ok-key.key < length c.self.inside.names.now = bounds-self-inside-key g c in search rules

pub invariant_of-self-2 : goal.invariant_of-self-2
invariant_of-self-2 g c =
    let step = c.in_ok-key.ensures.steps in
    λ some. keyed_rest c.self.inside.names.now g.J.Judge.order g.row.D c.self.inside.rest c.next.new.self c.in_ok-key.key c.in_ok-key.item step (c.self.invariant (step.variant.0 refl))

pub returns-clause-steps : goal.returns-clause-steps
returns-clause-steps g c =
    let names = c.self.inside.names.now in
    let step = c.in_ok-key.ensures.steps in
    let keyed = c.self.invariant (step.variant.0 refl) in
    let inside = keyed_given names g.J.Judge.order g.row.D c.self.inside.rest c.next.new.self c.in_ok-key.key c.in_ok-key.item step keyed in
    let at = slice_get-get_or names c.in_ok-key.key c.index-self-key.result inside in
    rw (← c.self.view_is) (gives_some names g.J.Judge.order g.row.D c.self.inside.rest c.next.new.self c.in_ok-key.key c.in_ok-key.item step keyed _ at)
