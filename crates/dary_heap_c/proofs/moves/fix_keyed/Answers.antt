use Rattle.dary_heap.proofs.Placing.{went}
use Rattle.dary_heap_c.specs.Places.{value_of}
use Rattle.dary_heap_c.proofs.Placing.{rights}
use Rattle.dary_heap_c.proofs.moves.fix_keyed.Goals as goal

pub returns-clause-rights : goal.returns-clause-rights
returns-clause-rights g c =
    let D = g.row.D in let place = c.args.place in let low = c.max.result in let high = c.min.result in
    let noted = c.write_path.ensures in let sifted = c.fix_with-stop.ensures in
    rights D low high place _ _ _ _ sifted.bag (went value_of D place c.fix_with-stop.result low high _ _ c.max.ensures c.min.ensures sifted.path c.requires sifted.within) noted.right noted.others
