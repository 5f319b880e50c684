use Rattle.std.proofs.Common.{◌<◌, ℕ, List, ap, length, rules, slice_get, suc, ◌∙◌}
use Rattle.std.proofs.lemmas.Option.{slice_get-get_or}
use Rattle.named_heap.proofs.Naming.{named_first}
use Rattle.named_heap.specs.Names.{named}
use Rattle.named_heap.proofs.iter.shared.IterIterator.next.Goals as goal

pub bounds-self-inside-key : goal.bounds-self-inside-key
bounds-self-inside-key g c =
    let first : ℕ × g.row.T.Denot = (c.in_ok-key.key, c.in_ok-key.item.now) in
    c.self.invariant 0 first (ap (λ (l : List (ℕ × g.row.T.Denot)). slice_get l 0) c.in_ok-key.ensures.steps)

pub offset_bounds-self-inside-key : goal.offset_bounds-self-inside-key
offset_bounds-self-inside-key g c = let inside : c.in_ok-key.key < length c.self.inside.names.now = bounds-self-inside-key g c in search rules

pub invariant_of-self-2 : goal.invariant_of-self-2
invariant_of-self-2 g c = λ p e there. c.self.invariant (suc p) e (ap (λ (l : List (ℕ × g.row.T.Denot)). slice_get l (suc p)) c.in_ok-key.ensures.steps ∙ there)

pub returns-clause-steps : goal.returns-clause-steps
returns-clause-steps g c =
    let names = c.self.inside.names.now in
    let first : ℕ × g.row.T.Denot = (c.in_ok-key.key, c.in_ok-key.item.now) in
    let inside = c.self.invariant 0 first (ap (λ (l : List (ℕ × g.row.T.Denot)). slice_get l 0) c.in_ok-key.ensures.steps) in
    let at = slice_get-get_or names c.in_ok-key.key c.index-self-key.result inside in
    rw (← c.self.view_is) (ap (λ (l : List (ℕ × g.row.T.Denot)). named names l) c.in_ok-key.ensures.steps ∙ named_first names first c.next.new.self _ at)

pub returns-clause-goes : goal.returns-clause-goes
returns-clause-goes g c = let steps = returns-clause-steps g c in search (rules, steps)
