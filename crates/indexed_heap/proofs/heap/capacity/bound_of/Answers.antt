use Rattle.dary_heap.proofs.Common.{ℕ, ◌+◌, ap, ◌∙◌, arith, get_or, take, take_more}
use Rattle.indexed_heap.specs.Keys.{key_bound}
use Rattle.indexed_heap.proofs.Keys.{bound_more, max_is}
use Rattle.indexed_heap.proofs.heap.capacity.bound_of.Goals as goal

pub loop-key-preserved : goal.loop-key-preserved
loop-key-preserved g c =
    let xs = c.args.entries.now in let i = c.loop-key.key-index in let x = c.loop-key-item.result in
    let more = ap key_bound (take_more xs i x c.loop-key-test.true) ∙ bound_more (take i xs) (get_or xs i x) in
    omega (arith, more, ap (λ (s : ℕ × g.row.T.Denot). s.0) c.loop-key-item.is, c.max-bound.ensures, max_is c.loop-key.bound (x.0 + 1), c.loop-key.invariant)
