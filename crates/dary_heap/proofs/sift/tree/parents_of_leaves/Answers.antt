use Rattle.dary_heap.proofs.{◌+◌, ◌-◌, ◌*◌, ◌/◌, ◌≤◌, subst, arith, arity, lt-div-mul-add, no_whole_row, mul-le-mul_right}
use Rattle.dary_heap.proofs.sift.tree.parents_of_leaves.Goals as goal

pub returns : goal.returns
returns g c at past =
    let d = arity g.row.D in
    let whole = (c.args.len - 1) / d in
    let next : whole / d + 1 ≤ at = subst (λ a. (c.args.len - 1) / a / a + 1 ≤ at) c.arity-arity.ensures past in
    let low : whole ≤ at * d = omega (arith, lt-div-mul-add {a = whole} {b = d} (omega arith), mul-le-mul_right d next) in
    omega (arith, no_whole_row g.row.D (at * d) c.args.len low)
