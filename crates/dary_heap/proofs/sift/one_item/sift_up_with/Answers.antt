use Rattle.dary_heap.proofs.{length, length_permutation, arith}
use Rattle.dary_heap.proofs.Path.{GoesUp-le}
use Rattle.dary_heap.proofs.sift.{but_above, whole_of}
use Rattle.dary_heap.proofs.sift.one_item.sift_up_with.Goals as goal

pub returns-clause-ordered : goal.returns-clause-ordered
returns-clause-ordered g c = λ h none.
    let xs = c.args.items.now in
    let sifted = c.sift_up.ensures.sifted in
    whole_of g.row.D xs c.sift_up.new.items sifted.permutation (sifted.ordered (length xs) c.requires (but_above g.row.D c.args.place (length xs) xs h none))

pub returns-clause-within : goal.returns-clause-within
returns-clause-within g c =
    let sifted = c.sift_up.ensures.sifted in
    omega (arith, c.requires, GoesUp-le g.row.D c.args.place c.sift_up.result sifted.path, length_permutation c.args.items.now c.sift_up.new.items sifted.permutation)
