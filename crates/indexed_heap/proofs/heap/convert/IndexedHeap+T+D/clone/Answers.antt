use Rattle.dary_heap.proofs.Common.{◌≡◌, ℕ, length, arith, sym, ap, ◌∙◌}
use Rattle.dary_heap.proofs.heap.Cloning.{clones_same}
use Rattle.indexed_heap.specs.Entries.{Indexed}
use Rattle.indexed_heap.proofs.Copying.{entries_same}
use Rattle.std.proofs.lemmas.Bool.{eqb-true}
use Rattle.indexed_heap.proofs.Placing.{no_entries}
use Rattle.indexed_heap.proofs.heap.convert.IndexedHeap+T+D.clone.Goals.{In_ok-entries}
use Rattle.indexed_heap.proofs.heap.convert.IndexedHeap+T+D.clone.Given.{Over}
use Rattle.indexed_heap.proofs.heap.convert.IndexedHeap+T+D.clone.Goals as goal

-- the clones have the same values
same : (g : Over) (c : In_ok-entries g) → c.in_ok-entries.entries.items ≡ c.self.inside.entries.items
same g c = entries_same g.T.Clone.is_clone c.self.inside.entries.items c.in_ok-entries.entries.items (rw (← c.self.view_is) at c.requires) (rw c.as_slice.ensures.items at c.in_ok-entries.ensures.ok)

pub from_raw_vec_with-requires : goal.from_raw_vec_with-requires
from_raw_vec_with-requires g c = rw (same g (goal.at.from_raw_vec_with-requires g c).In_ok-entries) (omega arith, c.as_slice.ensures.ordered)

pub invariant_of-result : goal.invariant_of-result
invariant_of-result g c =
    let s = (goal.at.invariant_of-result g c).In_ok-entries in
    let old = c.self.inside.places.items in let new = c.in_ok-places.places.items in
    let places : new ≡ old = clones_same (λ (x y : ℕ). y ≡ x) old new (λ x y in' h. h) c.in_ok-places.ensures.cases.0 in
    rw (c.from_raw_vec_with.ensures.items, same g s, places) c.self.invariant

pub returns-clause-entries : goal.returns-clause-entries
returns-clause-entries g c =
    c.from_raw_vec_with.ensures.items ∙ same g (goal.at.returns-clause-entries g c).In_ok-entries ∙ ap (λ (h : Indexed g.row.T.Denot). h.entries) c.self.view_is

pub returns-then-is_empty-clause-entries : goal.returns-then-is_empty-clause-entries
returns-then-is_empty-clause-entries g c =
    let places = c.self.inside.places in
    let none : length places.items ≡ 0 = omega (arith, places.ok.0, eqb-true _ 0 (sym c.is_empty.ensures ∙ c.if-is_empty.true)) in
    c.new.ensures.entries ∙ sym (no_entries c.self.invariant none) ∙ ap (λ (h : Indexed g.row.T.Denot). h.entries) c.self.view_is
