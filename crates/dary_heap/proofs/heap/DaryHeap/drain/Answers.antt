use Rattle.dary_heap.proofs.Common.{Vec, vec_capacity, vec_len, refl, sym, ap, ◌∙◌, [], Global, Contents, drain_rest}
use Rattle.dary_heap.proofs.iter.Iterating.{runs, runs_back}
use Rattle.dary_heap.proofs.sift.Written.{written_back, same_contents}
use Rattle.dary_heap.proofs.heap.DaryHeap.drain.Goals as goal

-- what the heap is left has no place that the loan could write to
pub returns : goal.returns
returns g c =
    let was = c.self.view_is in
    let left = c.replace-items.ensures.after in
    let len = ap (λ (v : Vec g.row.T.Denot Global). vec_len v) left ∙ c.new.ensures.len in
    let room = ap (λ (v : Vec g.row.T.Denot Global). vec_capacity v) left ∙ c.new.ensures.capacity in (
      (refl, λ w. same_contents _ _ (written_back _ [] _ (sym len)) room (ap (λ (it : Contents g.row.T.Denot). it.comparisons) was)),
      record {
        emptied = tt;
        items = c.of.ensures.items ∙ ap (λ (v : Vec g.row.T.Denot Global). v.items) c.replace-items.ensures.value ∙ ap (λ (it : Contents g.row.T.Denot). it.items) was;
        fits = c.of.ensures.fits;
        runs = runs drain_rest;
        runs_back = runs_back drain_rest;
      },
    )
