use Rattle.dary_heap.proofs.{◌≡◌, ◌≢◌, ◌∷◌, ◌++◌, [], set, slice_get, slice_get-get_or, slice_get_within, get_or_from_slice_get, Some, sym, ap, ◌∙◌, IsPermutation, IsPermutation-sym, IsPermutation-to_front, IsPermutation-trans}
use Rattle.dary_heap.proofs.{is_le, Greater, strictly_less, IsHeapOrdered}
use Rattle.dary_heap.proofs.Callers.{overwritten}
use Rattle.dary_heap.proofs.sift.{none_greater, taken_first, written_back}
use Rattle.dary_heap.proofs.heap.DaryHeap.raise_at_returning_place.Goals as goal

-- the slice before it is sifted
is : (g : _) (c : goal.After-self-2-1 g) → c.as_mut_slice.result.now ≡ set c.self.inside.items.items c.args.place c.args.item
is g c = c.as_mut_slice.ensures.value ∙ ap (set c.self.inside.items.items c.args.place) c.replace-old.ensures.after

-- the item that was there
was : (g : _) (c : goal.After-self-2-1 g) → slice_get c.self.inside.items.items c.args.place ≡ Some c.replace-old.result
was g c =
    slice_get-get_or c.self.inside.items.items c.args.place c.index_mut.result.now (rw (← c.self.view_is) at c.requires) ∙ ap Some (sym c.index_mut.ensures.value ∙ sym c.replace-old.ensures.value)

-- what the judge said of it
said : (g : _) (c : goal.After-self-2-1 g) → c.at_most.result ≡ is_le (g.J.Judge.order c.args.item c.replace-old.result)
said g c =
    c.at_most.ensures.answer ∙ ap (λ held. is_le (g.J.Judge.order c.args.item held)) (c.index.ensures ∙ get_or_from_slice_get c.self.inside.items.items c.args.place c.replace-old.result c.index.result.now (was g c))

ordered : (g : _) (c : goal.After-self-2-1 g) → IsHeapOrdered g.J.Judge.order g.row.D c.sift_up_with-stop.new.items
ordered g c =
    let total = g.met.J.Judge.total in
    let xs = c.self.inside.items.items in let at = c.args.place in let old = c.replace-old.result in
    let less = strictly_less total c.args.item old (sym (said g c) ∙ c.if-at_most.false) in
    let under : g.J.Judge.order old c.args.item ≢ Greater = λ e. (let no = sym less ∙ e in cc) in
    c.sift_up_with-stop.ensures.ordered (rw (is g c) (overwritten total g.row.D at xs c.args.item c.self.invariant))
    (rw (is g c) (none_greater total g.row.D at xs old c.args.item (slice_get_within xs at old (was g c)) (was g c) under c.self.invariant))

pub invariant_of-self-2 : goal.invariant_of-self-2
invariant_of-self-2 g c = rw (written_back _ c.sift_up_with-stop.new.items _ (c.sift_up_with-stop.auto.items ∙ c.as_mut_slice.ensures.len)) (ordered g c)

pub returns-clause-ordered : goal.returns-clause-ordered
returns-clause-ordered g c = invariant_of-self-2 g c

pub returns-clause-item : goal.returns-clause-item
returns-clause-item g c = rw (← c.self.view_is) (was g c)

pub returns-clause-path : goal.returns-clause-path
returns-clause-path g c =
    rw (← c.self.view_is, written_back _ c.sift_up_with-stop.new.items _ (c.sift_up_with-stop.auto.items ∙ c.as_mut_slice.ensures.len)) (rw (is g c) at c.sift_up_with-stop.ensures.path)

pub returns-clause-bag : goal.returns-clause-bag
returns-clause-bag g c =
    let xs = c.self.inside.items.items in
    let came : IsPermutation (c.args.item ∷ xs) (xs ++ c.args.item ∷ []) = IsPermutation-sym _ _ (IsPermutation-to_front xs c.args.item) in
    let settled : IsPermutation (set xs c.args.place c.args.item) c.sift_up_with-stop.new.items = rw (is g c) at c.sift_up_with-stop.ensures.bag in
    rw (← c.self.view_is, written_back _ c.sift_up_with-stop.new.items _ (c.sift_up_with-stop.auto.items ∙ c.as_mut_slice.ensures.len))
    (IsPermutation-trans _ _ _ came (taken_first xs c.sift_up_with-stop.new.items c.args.place c.args.item c.replace-old.result (was g c) settled))
