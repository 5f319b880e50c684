use Rattle.dary_heap.proofs.Common.{◌≡◌, ℕ, ◌<◌, ◌≤◌, vec_capacity, [], ◌∷◌, List, length, take}
use Rattle.indexed_heap.specs.Ways.{IsNamedFrom}
use Rattle.indexed_heap.proofs.shortest_path.Ways.{IsReadDownTo}
use Rattle.indexed_heap.proofs.shortest_path.walks.path_to.Given as goal

abbrev pub invariant-loop-steps : goal.invariant-loop-steps
invariant-loop-steps l = record {
  capacity : vec_capacity l.fn.nodes ≤ vec_capacity l.nodes;
  within : l.steps < length l.nodes.items;
  first : take 1 l.nodes.items ≡ l.start ∷ [];
  read : (nodes : List ℕ) → IsNamedFrom l.prev l.start l.goal nodes → IsReadDownTo l.prev l.start l.goal l.steps l.node l.nodes.items nodes;
}

abbrev pub decreases-loop-steps : goal.decreases-loop-steps
decreases-loop-steps l = l.steps
