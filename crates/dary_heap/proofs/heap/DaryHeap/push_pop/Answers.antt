use Rattle.dary_heap.proofs.{refl, ◌≡◌, [], ◌∙◌, slice_get-get_or, get_or_from_slice_get, arith, Some, sym, ap, Less, first_is_greatest, not_greater, strictly_less, nil_from_length, IsGreatest-overtaken}
use Rattle.dary_heap.proofs.{IsGreatest-stays, IsPermutation-refl, upper_bound_left, greatest_alone, vec_len, true, false, ◌<◌, length, common_steps}
use Rattle.std.specs.Prelude.{◌==◌}
use Rattle.dary_heap.proofs.heap.DaryHeap.push_pop.Goals.{then-is_empty-via-then-is_empty, then-is_empty-via-else-is_empty+then-at_most}
use Rattle.dary_heap.proofs.heap.DaryHeap.push_pop.Goals as goal

pub returns-then-is_empty-clause-greatest : goal.returns-then-is_empty-clause-greatest
returns-then-is_empty-clause-greatest g c = elim c.then-is_empty.branch [
  | then-is_empty-via-then-is_empty w ↦
      let said : (vec_len c.self.inside.items == 0) ≡ true = sym c.is_empty.ensures ∙ w.if-is_empty.true in
      let none : c.self.inside.items.items ≡ [] = nil_from_length _ (grind (arith, common_steps)) in
      rw (← c.self.view_is, none) (greatest_alone g.met.J.Judge.total c.args.item)
  | then-is_empty-via-else-is_empty+then-at_most w ↦
      let xs = c.self.inside.items.items in
      let top = w.index.result.now in
      let said : (vec_len c.self.inside.items == 0) ≡ false = sym c.is_empty.ensures ∙ w.if-is_empty.false in
      let some : 0 < length xs = grind (arith, common_steps) in
      let first = first_is_greatest g.met.J.Judge.total g.row.D xs c.self.invariant top
      (slice_get-get_or xs 0 top some ∙ ap Some (sym w.index.ensures)) in
      rw (← c.self.view_is)
      (IsGreatest-overtaken g.met.J.Judge.total c.args.item top xs first (not_greater (g.J.Judge.order top c.args.item) (sym w.at_most.ensures.answer ∙ w.if-at_most.true)))
]

-- the new item is strictly less than the first, which was returned
less : (g : _) (c : goal.After-replace_first g) → g.J.Judge.order c.args.item c.replace_first.result ≡ Less
less g c =
    let xs = c.self.inside.items.items in
    let top = c.index.result.now in
    let is : c.replace_first.result ≡ top = sym (c.index.ensures ∙ get_or_from_slice_get xs 0 c.replace_first.result top c.replace_first.ensures.first) in
    rw is (strictly_less g.met.J.Judge.total top c.args.item (sym c.at_most.ensures.answer ∙ c.if-at_most.false))

pub returns-clause-first : goal.returns-clause-first
returns-clause-first g c = rw (← c.self.view_is, c.replace_first.ensures.first, less g c) refl

pub returns-clause-greatest : goal.returns-clause-greatest
returns-clause-greatest g c = rw (← c.self.view_is) (IsGreatest-stays c.args.item c.replace_first.result _ c.replace_first.ensures.greatest (λ e. let no = sym (less g c) ∙ e in cc))

pub returns-clause-unmoved : goal.returns-clause-unmoved
returns-clause-unmoved g c = rw (← c.self.view_is) (λ other. absurd (other c.replace_first.result c.replace_first.ensures.first (less g c)))

pub returns-then-is_empty-clause-below_top : goal.returns-then-is_empty-clause-below_top
returns-then-is_empty-clause-below_top g c =
    let still : c.then-is_empty.self.items ≡ c.args.self.now.items = elim c.then-is_empty.branch [
      | then-is_empty-via-then-is_empty w ↦ grind (arith, common_steps)
      | then-is_empty-via-else-is_empty+then-at_most w ↦ grind (arith, common_steps)
    ] in
    rw still (upper_bound_left g.met.J.Judge.total _ _ c.args.item (returns-then-is_empty-clause-greatest g c) (IsPermutation-refl _))

pub returns-clause-below_top : goal.returns-clause-below_top
returns-clause-below_top g c = upper_bound_left g.met.J.Judge.total _ _ c.replace_first.result (returns-clause-greatest g c) (rw (← c.self.view_is) c.replace_first.ensures.bag)
