use Rattle.dary_heap.proofs.Common.{◌∙◌, arith, common_steps}
use Rattle.dary_heap.proofs.heap.Cloning.{clones_same}
use Rattle.dary_heap.proofs.iter.owned.IntoIter.clone.Goals as goal

pub returns-clause-items : goal.returns-clause-items
returns-clause-items g c =
    let asked = rw (← c.self.view_is) at c.requires in
    clones_same g.T.Clone.is_clone _ _ asked c.in_ok-rest.ensures.cases.0 ∙ c.self.view_is

pub returns-then-is_empty-clause-items : goal.returns-then-is_empty-clause-items
returns-then-is_empty-clause-items g c = grind (arith, common_steps)
