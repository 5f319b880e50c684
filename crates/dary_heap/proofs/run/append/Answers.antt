use Rattle.dary_heap.proofs.{ap, arith, nat_tests, refl, zero-le, Contents, same_state}
use Rattle.dary_heap.proofs.run.Serving.{serves_same, appended}
use Rattle.dary_heap.proofs.run.append.Goals as goal

pub returns-in-Ok : goal.returns-in-Ok
returns-in-Ok g c = let e = c.in-Ok.ensures in appended g.met.T.Ord.total _ _ _ e.bag e.same_items e.ordered e.counted (λ few. grind (arith, nat_tests, e.capacity, few))

pub returns-in-Err : goal.returns-in-Err
returns-in-Err g c =
    let e = c.in-Err.ensures in
    let back = ap (λ (it : Contents g.row.T.Denot). it.items) e.other_unchanged in
    serves_same e.unchanged e.ordered (same_state _ _ back, same_state _ _ refl) tt zero-le refl (
      grind (arith, nat_tests, e.full),
      grind (arith, nat_tests, e.full),
      λ few. grind (arith, nat_tests, e.full, few),
    )
