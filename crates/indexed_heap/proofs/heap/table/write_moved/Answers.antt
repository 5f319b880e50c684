use Rattle.dary_heap.proofs.Common.{arith, length_permutation}
use Rattle.dary_heap.proofs.Path.{GoesTo-permutation}
use Rattle.dary_heap.proofs.Placing.{went, went_above}
use Rattle.indexed_heap.specs.Places.{key_of}
use Rattle.indexed_heap.proofs.heap.table.write_moved.Goals as goal

pub write_path-requires-clause-inside : goal.write_path-requires-clause-inside
write_path-requires-clause-inside g c =
    let moved = c.requires in
    let long = length_permutation moved.before c.args.entries.now (GoesTo-permutation g.row.D c.args.at c.args.stop moved.before c.args.entries.now moved.inside moved.within moved.path) in
    omega (arith, long, moved.inside, moved.within, c.max.ensures)

pub write_path-requires-clause-above : goal.write_path-requires-clause-above
write_path-requires-clause-above g c = went_above key_of g.row.D c.args.at c.args.stop c.max.result c.min.result c.requires.before c.args.entries.now c.max.ensures c.min.ensures c.requires.path

pub write_path-requires-clause-right : goal.write_path-requires-clause-right
write_path-requires-clause-right g c =
    let moved = c.requires in
    went key_of g.row.D c.args.at c.args.stop c.max.result c.min.result moved.before c.args.entries.now c.max.ensures c.min.ensures moved.path moved.inside moved.within moved.keys moved.right
