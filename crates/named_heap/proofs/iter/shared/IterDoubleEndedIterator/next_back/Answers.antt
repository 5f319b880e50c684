use Rattle.std.proofs.Common.{◌<◌, ◌∷◌, ◌++◌, [], ℕ, List, ap, arith, length, rules, slice_get, ◌∙◌}
use Rattle.std.proofs.lemmas.Option.{slice_get-get_or, slice_get_within}
use Rattle.dary_heap.proofs.Order.{slice_get-append, slice_get-push}
use Rattle.std.proofs.lemmas.Grind.{common_steps, flat_map-append}
use Rattle.named_heap.proofs.Naming.{named_first}
use Rattle.named_heap.specs.Names.{entry_of, named}
use Rattle.named_heap.proofs.iter.shared.IterDoubleEndedIterator.next_back.Goals as goal

pub bounds-self-inside-key : goal.bounds-self-inside-key
bounds-self-inside-key g c =
    let last : ℕ × g.row.T.Denot = (c.in_ok-key.key, c.in_ok-key.item.now) in
    let rest = c.next_back.new.self in
    c.self.invariant (length rest) last (ap (λ (l : List (ℕ × g.row.T.Denot)). slice_get l (length rest)) c.in_ok-key.ensures.steps ∙ slice_get-push rest last)

pub offset_bounds-self-inside-key : goal.offset_bounds-self-inside-key
offset_bounds-self-inside-key g c = let inside : c.in_ok-key.key < length c.self.inside.names.now = bounds-self-inside-key g c in search rules

pub invariant_of-self-2 : goal.invariant_of-self-2
invariant_of-self-2 g c = λ p e there.
    let last : ℕ × g.row.T.Denot = (c.in_ok-key.key, c.in_ok-key.item.now) in
    let rest = c.next_back.new.self in
    c.self.invariant p e (ap (λ (l : List (ℕ × g.row.T.Denot)). slice_get l p) c.in_ok-key.ensures.steps ∙ slice_get-append rest (last ∷ []) p (slice_get_within rest p e there) ∙ there)

pub returns-clause-steps : goal.returns-clause-steps
returns-clause-steps g c =
    let names = c.self.inside.names.now in
    let rest = c.next_back.new.self in
    let last : ℕ × g.row.T.Denot = (c.in_ok-key.key, c.in_ok-key.item.now) in
    let inside = c.self.invariant (length rest) last (ap (λ (l : List (ℕ × g.row.T.Denot)). slice_get l (length rest)) c.in_ok-key.ensures.steps ∙ slice_get-push rest last) in
    let at = slice_get-get_or names c.in_ok-key.key c.index-self-key.result inside in
    let split = flat_map-append (λ (e : ℕ × g.row.T.Denot). entry_of (slice_get names e.0) e.1) rest (last ∷ []) in
    rw (← c.self.view_is) (ap (λ (l : List (ℕ × g.row.T.Denot)). named names l) c.in_ok-key.ensures.steps ∙ split ∙ ap (λ (l : List (g.row.K.Denot × g.row.T.Denot)). named names rest ++ l)
    (named_first names last [] _ at))

pub returns-clause-goes : goal.returns-clause-goes
returns-clause-goes g c =
    let steps = returns-clause-steps g c in
    let long = ap (λ (l : List (g.row.K.Denot × g.row.T.Denot)). length l) steps in
    grind (arith, common_steps, long)
