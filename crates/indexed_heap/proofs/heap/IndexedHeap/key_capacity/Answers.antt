use Rattle.dary_heap.proofs.Common.{arith}
use Rattle.indexed_heap.proofs.Placing.{has_key}
use Rattle.indexed_heap.proofs.heap.IndexedHeap.key_capacity.Goals as goal

pub returns-clause-holds : goal.returns-clause-holds
returns-clause-holds g c = rw (← c.self.view_is) (λ at key h. let inside = has_key c.self.invariant at key h in omega (arith, inside, c.len.ensures, c.self.inside.places.ok))
