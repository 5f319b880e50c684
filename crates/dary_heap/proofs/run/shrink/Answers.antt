use Rattle.dary_heap.proofs.{arith, refl, zero-le, same_state}
use Rattle.dary_heap.proofs.run.Serving.{serves_kept}
use Rattle.dary_heap.proofs.run.shrink.Goals as goal

pub returns-in-Ok : goal.returns-in-Ok
returns-in-Ok g c = let e = c.in-Ok.ensures in serves_kept e.items e.uncounted e.ordered (same_state _ _ refl) tt zero-le e.ok tt

pub returns-in-Err : goal.returns-in-Err
returns-in-Err g c = let e = c.in-Err.ensures in serves_kept e.items e.uncounted e.ordered (same_state _ _ refl) tt zero-le e.capacity (omega (arith, e.err, e.capacity))
