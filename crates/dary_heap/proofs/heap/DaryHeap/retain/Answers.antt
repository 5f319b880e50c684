use Rattle.dary_heap.proofs.Callable.{takes_in_turn}
use Rattle.dary_heap.proofs.Common.{◌≡◌, inl, inr, ◌-◌, ◌≤◌, length, take, sym, ap, ◌∙◌, subst, arith, items_where_true, RisesWithin, mend_bound, first_no, IsHeapOrdered}
use Rattle.dary_heap.proofs.heap.Filtering.{picked-all, picked-front, many_picked, few_picked, first_no-within}
use Rattle.dary_heap.proofs.sift.{front-ordered, written_back, same_contents}
use Rattle.dary_heap.proofs.heap.DaryHeap.retain.Goals as goal

pub keep-start-requires : goal.keep-start-requires
keep-start-requires g c = elim c.requires [ inl always ↦ takes_in_turn g.F.FnMut c.args.f _ always | inr in_turn ↦ rw (← c.self.view_is) at in_turn ]

pub mend_with-requires : goal.mend_with-requires
mend_with-requires g c =
    let k = c.keep-start.ensures.kept in
    omega (arith, ap length (c.as_mut_slice.ensures.value ∙ k.4), many_picked k.0 c.self.inside.items.items k.2, k.5)

-- the slice before it is mended, and how many items it has
is : (g : _) (c : goal.After-self-1 g) → c.as_mut_slice.result.now ≡ items_where_true c.keep-start.ensures.kept.0 c.self.inside.items.items
is g c = c.as_mut_slice.ensures.value ∙ c.keep-start.ensures.kept.4

all : (g : _) (c : goal.After-self-1 g) → length c.mend_with.new.items ≡ c.keep-start.new.items.len
all g c = c.mend_with.auto.items ∙ c.as_mut_slice.ensures.len

-- the heap's items at the end
pub invariant_of-self : goal.invariant_of-self
invariant_of-self g c =
    let k = c.keep-start.ensures.kept in
    let xs = c.self.inside.items.items in
    let n = c.keep-start.result in
    let same : take n c.as_mut_slice.result.now ≡ take (first_no k.0) xs = ap (take n) (is g c) ∙ ap (λ m. take m (items_where_true k.0 xs)) k.5 ∙ picked-front k.0 xs k.2 in
    let few : first_no k.0 ≤ length xs = omega (arith, first_no-within k.0, k.2) in
    rw (written_back _ _ _ (all g c)) (c.mend_with.ensures.ordered (subst (IsHeapOrdered g.J.Judge.order g.row.D) (sym same) (front-ordered g.row.D (first_no k.0) xs few c.self.invariant)))

pub returns-clause-ordered : goal.returns-clause-ordered
returns-clause-ordered g c = invariant_of-self g c

pub returns-clause-retained : goal.returns-clause-retained
returns-clause-retained g c =
    let k = c.keep-start.ensures.kept in
    let xs = c.self.inside.items.items in
    let zs = c.mend_with.new.items in
    let now = c.as_mut_slice.result.now in
    let long = sym c.mend_with.auto.items in
    rw (← c.self.view_is) record {
      answers = k.0;
      after = k.1;
      all = k.2;
      asked = k.3;
      bag = rw (written_back _ zs _ (all g c)) (rw (is g c) at c.mend_with.ensures.bag);
      unchanged = λ none.
          let whole : now ≡ xs = is g c ∙ picked-all k.0 xs k.2 none in
          let last : c.keep-start.result ≡ length now = omega (arith, k.5, k.2, ap length whole, none) in
          let nothing : length now - c.keep-start.result ≡ 0 = omega arith in
          let uncounted = rw nothing at c.mend_with.ensures.counted in
          same_contents _ _ (written_back _ zs _ (all g c) ∙ c.mend_with.ensures.unchanged last ∙ whole) c.keep-start.ensures.capacity (omega (arith, uncounted));
      counted = rw (written_back _ zs _ (all g c)) (subst (λ m. RisesWithin (g.J.Judge.count c.self.inside.judge) (g.J.Judge.count c.mend_with.new.judge)
          (mend_bound g.row.D m (m - first_no k.0))) long (subst (λ m. RisesWithin (g.J.Judge.count c.self.inside.judge) (g.J.Judge.count c.mend_with.new.judge)
          (mend_bound g.row.D (length now) (length now - m))) k.5 c.mend_with.ensures.counted));
    }

pub returns-clause-len : goal.returns-clause-len
returns-clause-len g c =
    rw (← c.self.view_is) (rw (written_back _ _ _ (all g c)) (omega (arith, c.mend_with.auto.items, ap length (is g c), few_picked c.keep-start.ensures.kept.0 c.self.inside.items.items)))
