use Rattle.dary_heap.proofs.{rules, refl, ap, ◌∙◌, length, arith, Contents, IsPermutation-refl, length_permutation, below_root, ordered_state, common_steps}
use Rattle.dary_heap.proofs.peek_mut.Loans.{lone_uncounted, lone_unexceeded, none_exceeds, sunk_moved, sunk_unmoved}
use Rattle.dary_heap.proofs.sift.Written.{none_counted, same_contents, written_back}
use Rattle.dary_heap.proofs.peek_mut.methods.PeekMut+T+D+J.refresh.Goals as goal

pub returns-then-not-self : goal.returns-then-not-self
returns-then-not-self g c =
    let ordered = c.args.self.now.on_loan.whole (search rules) in
    record {
      moved = (λ never. cc, λ over. absurd (none_exceeds g.row.D g.met.J.Judge.total _ ordered over));
      bag = IsPermutation-refl _;
      len = refl;
      greatest = ordered_state g.met.J.Judge.total g.row.D _ ordered;
      ordered = ordered;
      settled = search rules;
      counted = none_counted _ _;
      capacity = refl;
      same_reference = refl;
      tight = none_counted _ _;
      unmoved = refl;
      unwritten = λ same. refl;
      alone = λ one. refl;
    }

-- the loan's vector holds what the sink left, which is a heap
pub invariant_of-self : goal.invariant_of-self
invariant_of-self g c =
    let is = c.as_mut_slice.ensures.value in
    let as_many = length_permutation _ _ (rw is at c.sink_with-moved.ensures.bag) in
    let ordered = (rw is at c.sink_with-moved.ensures.ordered) c.args.self.now.on_loan.below_root in
    rw (written_back _ c.sink_with-moved.new.items _ (c.sink_with-moved.auto.items ∙ c.as_mut_slice.ensures.len))
    record { on_loan = record { some = omega (arith, as_many, c.args.self.now.on_loan.some); below_root = below_root g.row.D _ ordered; whole = λ settled. ordered } }

pub returns-clause-ordered : goal.returns-clause-ordered
returns-clause-ordered g c =
    let ordered = (rw c.as_mut_slice.ensures.value at c.sink_with-moved.ensures.ordered) c.args.self.now.on_loan.below_root in
    rw (written_back _ c.sink_with-moved.new.items _ (c.sink_with-moved.auto.items ∙ c.as_mut_slice.ensures.len)) ordered

pub returns-clause-greatest : goal.returns-clause-greatest
returns-clause-greatest g c = ordered_state g.met.J.Judge.total g.row.D _ (returns-clause-ordered g c)

pub returns-clause-unmoved : goal.returns-clause-unmoved
returns-clause-unmoved g c = grind (arith, common_steps)

pub returns-clause-moved : goal.returns-clause-moved
returns-clause-moved g c =
    sunk_moved g.row.D g.met.J.Judge.total c.args.self.now.items.items _ _ (rw c.as_mut_slice.ensures.value at c.sink_with-moved.ensures.moved) (returns-clause-unmoved g c)
    (returns-clause-ordered g c)

pub returns-clause-alone : goal.returns-clause-alone
returns-clause-alone g c = λ one.
    let xs = c.args.self.now.items.items in
    let is = c.as_mut_slice.ensures.value in
    let still = sunk_unmoved g.row.D xs _ _ (rw is at c.sink_with-moved.ensures.moved) (returns-clause-unmoved g c) (lone_unexceeded g.J.Judge.order xs one) in
    same_contents _ _ still refl (lone_uncounted g.row.D (length xs) _ _ one (rw is at c.sink_with-moved.ensures.counted) ∙ ap (λ (it : Contents g.row.T.Denot). it.comparisons) c.heap.view_is)

pub returns-clause-bag : goal.returns-clause-bag
returns-clause-bag g c =
    rw (written_back _ c.sink_with-moved.new.items _ (c.sink_with-moved.auto.items ∙ c.as_mut_slice.ensures.len)) (rw c.as_mut_slice.ensures.value at c.sink_with-moved.ensures.bag)

pub returns-clause-len : goal.returns-clause-len
returns-clause-len g c = length_permutation _ _ (returns-clause-bag g c)
