use Rattle.dary_heap.proofs.{rules, refl, sym, ap, ◌∙◌, subst, vec_capacity, Vec, Global, IsHeapOrdered, ordered_state, arith}
use Rattle.dary_heap.proofs.heap.DaryHeap.peek_mut.Goals as goal

pub returns : goal.returns
returns g c =
    let is = c.replace-items.ensures.value in
    let left = c.replace-items.ensures.after in
    let ordered = subst (λ v. IsHeapOrdered g.J.Judge.order g.row.D v.items) (sym is) c.self.invariant in (
      (refl, λ w. refl, tt),
      record {
        unchanged = tt;
        variant = search rules;
        loaned = rw is c.self.view_is;
        unwritten = refl;
        greatest = ordered_state g.met.J.Judge.total g.row.D _ ordered;
        ordered = ordered;
        emptied = ap (λ (v : Vec g.row.T.Denot Global). v.items) left ∙ c.new.ensures.items;
        unallocated = ap (λ (v : Vec g.row.T.Denot Global). vec_capacity v) left ∙ c.new.ensures.capacity;
        same_reference = refl;
      },
    )

pub invariant_of-result : goal.invariant_of-result
invariant_of-result g c = grind arith
