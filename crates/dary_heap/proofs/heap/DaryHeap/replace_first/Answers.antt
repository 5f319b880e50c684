use Rattle.dary_heap.proofs.{◌≡◌, ◌∷◌, ◌++◌, [], set, slice_get-get_or, Some, sym, ap, ◌∙◌, below_root, first_is_greatest, front, IsHeapOrdered, IsPermutation, IsPermutation-sym, IsPermutation-to_front, IsPermutation-trans}
use Rattle.dary_heap.proofs.sift.{first_set, taken_first, written_back}
use Rattle.dary_heap.proofs.peek_mut.Loans.{none_exceeds, sunk_unmoved}
use Rattle.dary_heap.proofs.heap.DaryHeap.replace_first.Goals as goal

-- the slice before it is sifted
is : (g : _) (c : goal.After-self-2-1 g) → c.as_mut_slice.result.now ≡ set c.self.inside.items.items 0 c.args.item
is g c = c.as_mut_slice.ensures.value ∙ ap (set c.self.inside.items.items 0) c.replace-first.ensures.after

-- the item that was there
was : (g : _) (c : goal.After-self-2-1 g) → front c.self.inside.items.items ≡ Some c.replace-first.result
was g c =
    slice_get-get_or c.self.inside.items.items 0 c.index_mut.result.now (rw (← c.self.view_is) at c.requires) ∙ ap Some (sym c.index_mut.ensures.value ∙ sym c.replace-first.ensures.value)

ordered : (g : _) (c : goal.After-self-2-1 g) → IsHeapOrdered g.J.Judge.order g.row.D c.sink_with.new.items
ordered g c = c.sink_with.ensures.ordered (rw (is g c) (first_set g.row.D c.self.inside.items.items c.args.item (below_root g.row.D _ c.self.invariant)))

pub invariant_of-self : goal.invariant_of-self
invariant_of-self g c = rw (written_back _ c.sink_with.new.items _ (c.sink_with.auto.items ∙ c.as_mut_slice.ensures.len)) (ordered g c)

pub returns-clause-ordered : goal.returns-clause-ordered
returns-clause-ordered g c = invariant_of-self g c

pub returns-clause-greatest : goal.returns-clause-greatest
returns-clause-greatest g c = rw (← c.self.view_is) (first_is_greatest g.met.J.Judge.total g.row.D _ c.self.invariant c.replace-first.result (was g c))

pub returns-clause-bag : goal.returns-clause-bag
returns-clause-bag g c =
    let xs = c.self.inside.items.items in
    let came : IsPermutation (c.args.item ∷ xs) (xs ++ c.args.item ∷ []) = IsPermutation-sym _ _ (IsPermutation-to_front xs c.args.item) in
    let settled : IsPermutation (set xs 0 c.args.item) c.sink_with.new.items = rw (is g c) at c.sink_with.ensures.bag in
    rw (← c.self.view_is, written_back _ c.sink_with.new.items _ (c.sink_with.auto.items ∙ c.as_mut_slice.ensures.len))
    (IsPermutation-trans _ _ _ came (taken_first xs c.sink_with.new.items 0 c.args.item c.replace-first.result (was g c) settled))

pub returns-clause-stays : goal.returns-clause-stays
returns-clause-stays g c = rw (← c.self.view_is) (λ heap.
    let none = rw (← is g c) at (none_exceeds g.row.D g.met.J.Judge.total (set c.self.inside.items.items 0 c.args.item) heap) in
    let still = sunk_unmoved g.row.D c.as_mut_slice.result.now c.sink_with.new.items c.sink_with.result c.sink_with.ensures.moved c.sink_with.ensures.unchanged none in
    written_back _ c.sink_with.new.items _ (c.sink_with.auto.items ∙ c.as_mut_slice.ensures.len) ∙ still ∙ is g c)
