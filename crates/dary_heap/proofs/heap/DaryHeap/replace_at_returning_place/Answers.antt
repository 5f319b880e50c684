use Rattle.dary_heap.proofs.{◌≡◌, ◌∷◌, ◌++◌, [], set, slice_get, slice_get-get_or, Some, sym, ap, ◌∙◌, IsPermutation, IsPermutation-sym, IsPermutation-to_front, IsPermutation-trans}
use Rattle.dary_heap.proofs.{arith, common_steps}
use Rattle.dary_heap.proofs.Callers.{overwritten}
use Rattle.dary_heap.proofs.sift.{taken_first, written_back}
use Rattle.dary_heap.proofs.heap.DaryHeap.replace_at_returning_place.Goals as goal

-- the slice before it is sifted
is : (g : _) (c : goal.After-self-2-1 g) → c.as_mut_slice.result.now ≡ set c.self.inside.items.items c.args.place c.args.item
is g c = c.as_mut_slice.ensures.value ∙ ap (set c.self.inside.items.items c.args.place) c.replace-old.ensures.after

pub invariant_of-self : goal.invariant_of-self
invariant_of-self g c =
    rw (written_back _ c.fix_with-stop.new.items _ (c.fix_with-stop.auto.items ∙ c.as_mut_slice.ensures.len))
    (c.fix_with-stop.ensures.ordered (rw (is g c) (overwritten g.met.J.Judge.total g.row.D c.args.place c.self.inside.items.items c.args.item c.self.invariant)))

pub returns-clause-ordered : goal.returns-clause-ordered
returns-clause-ordered g c = invariant_of-self g c

-- the item that was there
was : (g : _) (c : goal.After-self-2-1 g) → slice_get c.self.inside.items.items c.args.place ≡ Some c.replace-old.result
was g c =
    slice_get-get_or c.self.inside.items.items c.args.place c.index_mut.result.now (rw (← c.self.view_is) at c.requires) ∙ ap Some (sym c.index_mut.ensures.value ∙ sym c.replace-old.ensures.value)

pub returns-clause-item : goal.returns-clause-item
returns-clause-item g c = rw (← c.self.view_is) (was g c)

pub returns-clause-path : goal.returns-clause-path
returns-clause-path g c =
    rw (← c.self.view_is, written_back _ c.fix_with-stop.new.items _ (c.fix_with-stop.auto.items ∙ c.as_mut_slice.ensures.len)) (rw (is g c) at c.fix_with-stop.ensures.path)

pub returns-clause-bag : goal.returns-clause-bag
returns-clause-bag g c =
    let xs = c.self.inside.items.items in
    let came : IsPermutation (c.args.item ∷ xs) (xs ++ c.args.item ∷ []) = IsPermutation-sym _ _ (IsPermutation-to_front xs c.args.item) in
    let settled : IsPermutation (set xs c.args.place c.args.item) c.fix_with-stop.new.items = rw (is g c) at c.fix_with-stop.ensures.bag in
    rw (← c.self.view_is, written_back _ c.fix_with-stop.new.items _ (c.fix_with-stop.auto.items ∙ c.as_mut_slice.ensures.len))
    (IsPermutation-trans _ _ _ came (taken_first xs c.fix_with-stop.new.items c.args.place c.args.item c.replace-old.result (was g c) settled))

pub returns-clause-len : goal.returns-clause-len
returns-clause-len g c = grind (arith, common_steps)

pub returns-clause-stays : goal.returns-clause-stays
returns-clause-stays g c = grind (arith, common_steps)
