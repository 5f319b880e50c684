use Rattle.dary_heap.proofs.{◌≡◌, ◌∷◌, ◌++◌, [], set, slice_get, slice_get-get_or, Some, sym, ap, ◌∙◌, IsPermutation, IsPermutation-sym, IsPermutation-to_front, IsPermutation-trans}
use Rattle.dary_heap.proofs.{rules}
use Rattle.dary_heap.proofs.Callers.{overwritten}
use Rattle.dary_heap.proofs.sift.{taken_first, written_back}
use Rattle.dary_heap.proofs.heap.DaryHeap.update_at_returning_place.Goals as goal

pub invariant_of-self : goal.invariant_of-self
invariant_of-self g c =
    let is : c.as_mut_slice.result.now ≡ set c.self.inside.items.items c.args.place c.f.new.arg2 = c.as_mut_slice.ensures.value in
    rw (written_back _ c.fix_with.new.items _ (c.fix_with.auto.items ∙ c.as_mut_slice.ensures.len))
    (c.fix_with.ensures.ordered (rw is (overwritten g.met.J.Judge.total g.row.D c.args.place c.self.inside.items.items c.f.new.arg2 c.self.invariant)))

pub returns-clause-ordered : goal.returns-clause-ordered
returns-clause-ordered g c = invariant_of-self g c

pub returns-clause-updated : goal.returns-clause-updated
returns-clause-updated g c =
    let xs = c.self.inside.items.items in let left = c.f.new.arg2 in
    let was : slice_get xs c.args.place ≡ Some c.index_mut.result.now = slice_get-get_or xs c.args.place c.index_mut.result.now (rw (← c.self.view_is) at c.requires.inside) ∙ ap Some (sym c.index_mut.ensures.value) in
    let is : c.as_mut_slice.result.now ≡ set xs c.args.place left = c.as_mut_slice.ensures.value in
    let came : IsPermutation (left ∷ xs) (xs ++ left ∷ []) = IsPermutation-sym _ _ (IsPermutation-to_front xs left) in
    let settled : IsPermutation (set xs c.args.place left) c.fix_with.new.items = rw is at c.fix_with.ensures.bag in
    rw (← c.self.view_is, written_back _ c.fix_with.new.items _ (c.fix_with.auto.items ∙ c.as_mut_slice.ensures.len))
    record {
      held = c.index_mut.result.now;
      left = left;
      was = was;
      called = search rules;
      bag = IsPermutation-trans _ _ _ came (taken_first xs c.fix_with.new.items c.args.place left c.index_mut.result.now was settled);
      path = rw is at c.fix_with.ensures.path;
    }
