use Rattle.dary_heap.proofs.Common.{◌-◌, length, arith}
use Rattle.dary_heap.proofs.Placing.{went_up}
use Rattle.dary_heap_c.specs.Places.{value_of}
use Rattle.dary_heap_c.proofs.Keeping.{last_has_no_child, ordered_but_last}
use Rattle.dary_heap_c.proofs.Placing.{rights}
use Rattle.dary_heap_c.proofs.moves.push_keyed.Goals as goal

pub returns-clause-ordered : goal.returns-clause-ordered
returns-clause-ordered g c = λ h.
    let xs = c.args.entries.now in
    c.sift_up_with-stop.ensures.ordered (ordered_but_last g.row.D xs h) (last_has_no_child g.row.D xs)

pub returns-clause-rights : goal.returns-clause-rights
returns-clause-rights g c =
    let last = length c.args.entries.now - 1 in let stop = c.sift_up_with-stop.result in let sifted = c.sift_up_with-stop.ensures in
    rights g.row.D last stop last _ _ _ _ sifted.bag (went_up value_of g.row.D last stop _ _ (omega arith) sifted.path) c.write_path.ensures.right c.write_path.ensures.others
