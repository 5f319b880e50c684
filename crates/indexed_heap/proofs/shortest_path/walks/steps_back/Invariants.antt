use Rattle.dary_heap.proofs.Common.{◌≡◌, ℕ, ◌+◌, ◌-◌, List, length}
use Rattle.indexed_heap.specs.Ways.{IsNamedFrom}
use Rattle.indexed_heap.proofs.shortest_path.walks.steps_back.Given as goal

abbrev pub invariant-loop-node : goal.invariant-loop-node
invariant-loop-node l = (nodes : List ℕ) → IsNamedFrom l.prev l.start l.goal nodes → (rest : List ℕ) × IsNamedFrom l.prev l.start l.node rest × (length nodes ≡ l.steps + length rest)

abbrev pub decreases-loop-node : goal.decreases-loop-node
decreases-loop-node l = length l.prev - l.steps
