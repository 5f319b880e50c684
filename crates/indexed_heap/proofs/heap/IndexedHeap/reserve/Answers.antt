use Rattle.dary_heap.proofs.Common.{arith}
use Rattle.indexed_heap.proofs.Placing.{longer}
use Rattle.indexed_heap.proofs.Sound.{sound}
use Rattle.indexed_heap.proofs.heap.IndexedHeap.reserve.Goals as goal

pub returns-in_err-reserve-clause-sound : goal.returns-in_err-reserve-clause-sound
returns-in_err-reserve-clause-sound g c = sound g.row.D c.reserve.new.self.items c.self.inside.places.items c.reserve.ensures.ordered (rw c.reserve.ensures.items c.self.invariant)

-- the longer table shows the same
pub invariant_of-self-2 : goal.invariant_of-self-2
invariant_of-self-2 g c =
    let old = c.self.inside.places in let new = c.widen.new.places in
    rw c.reserve.ensures.items (longer c.self.invariant new.items (omega (arith, c.widen.ensures.longer, old.ok, new.ok)) (λ k d inside. c.widen.ensures.kept k d (omega (arith, inside, old.ok))))

pub returns-clause-sound : goal.returns-clause-sound
returns-clause-sound g c = sound g.row.D c.reserve.new.self.items c.widen.new.places.items c.reserve.ensures.ordered (invariant_of-self-2 g c)
