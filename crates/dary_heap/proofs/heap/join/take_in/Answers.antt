use Rattle.dary_heap.proofs.Common.{◌≡◌, ◌-◌, ◌++◌, length, take, ap, ◌∙◌, sym, subst, arith, append-nil, IsHeapOrdered}
use Rattle.dary_heap.proofs.sift.Written.{written_back}
use Rattle.dary_heap.proofs.heap.join.take_in.Goals as goal

-- the slice before it is mended, and how many items it has
is : (g : _) (c : goal.After-items-1 g) → c.as_mut_slice.result.now ≡ c.args.items.now.items ++ c.args.others.now.items
is g c = c.as_mut_slice.ensures.value ∙ c.in-Ok.ensures.items

all : (g : _) (c : goal.After-items-1 g) → length c.mend_with.new.items ≡ c.append.new.self.len
all g c = c.mend_with.auto.items ∙ c.as_mut_slice.ensures.len

pub returns-clause-bag : goal.returns-clause-bag
returns-clause-bag g c = rw (written_back _ _ _ (all g c)) (rw (is g c) at c.mend_with.ensures.bag)

pub returns-clause-ordered : goal.returns-clause-ordered
returns-clause-ordered g c = λ h.
    let xs = c.args.items.now.items in
    let start = c.len-start.ensures ∙ c.args.items.now.ok.0 in
    let front : take c.len-start.result c.as_mut_slice.result.now ≡ xs = ap (take c.len-start.result) (is g c) ∙ written_back _ xs c.args.others.now.items (sym start) in
    rw (written_back _ _ _ (all g c)) (c.mend_with.ensures.ordered (subst (IsHeapOrdered g.J.Judge.order g.row.D) (sym front) h))

pub returns-clause-counted : goal.returns-clause-counted
returns-clause-counted g c =
    let long = c.as_mut_slice.ensures.len in
    let tail : length c.as_mut_slice.result.now - c.len-start.result ≡ c.args.others.now.len = omega (arith, long, c.in-Ok.ensures.len, c.len-start.ensures) in
    rw (← long, ← tail) c.mend_with.ensures.counted

pub returns-clause-same_items : goal.returns-clause-same_items
returns-clause-same_items g c = λ none.
    let same = c.as_mut_slice.ensures.value ∙ c.in-Ok.ensures.items ∙ ap (λ ys. c.args.items.now.items ++ ys) none ∙ append-nil c.args.items.now.items in
    rw (written_back _ _ _ (all g c)) (c.mend_with.ensures.unchanged (c.len-start.ensures ∙ c.args.items.now.ok.0 ∙ sym (ap length same)) ∙ same)
