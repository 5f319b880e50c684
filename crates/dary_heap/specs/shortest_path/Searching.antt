-- The states of a search, and what the examining of edges makes of the costs found so far and of the states that wait. A cost found is the limit if no walk was found. Only private functions speak
-- of these, but for the order of states.
use Rattle.std.specs.Prelude.{◌≡◌, ◌⊎◌, ℕ, ◌+◌, ◌<◌, ◌≤◌, nat_eq, ◌&&◌, Bool, List, length, slice_index_or, sum, Contains}
use Rattle.std.specs.List.{IsDistinct}
use Rattle.std.specs.Ordering.{nat_cmp, on, flip_args, then_cmp}
use Rattle.std.specs.declared.cmp.Ordering.{Ordering}
use Rattle.dary_heap.specs.declared.shortest_path.Edge.{Edge}
use Rattle.dary_heap.specs.declared.shortest_path.State.{State}

-- the cheaper state is the greater one, and of those of one cost that of the greater node
abbrev pub state_cmp : State → State → Ordering
state_cmp = then_cmp (flip_args (on (λ s. s.cost) nat_cmp)) (on (λ s. s.position) nat_cmp)

-- the state of a node that is reached at a cost
abbrev pub state : ℕ → ℕ → State
state cost position = record { cost = cost; position = position }

-- the state s stands for one of the edges, from a node that costs so much
pub record IsAlong (cost : ℕ) (edges : List Edge) (s : State) : Type 0 where
  pub edge : Edge
  pub stands : Contains edges edge
  pub ends : s.position ≡ edge.node
  pub costs : s.cost ≡ cost + edge.cost

-- the sum over one of the edges reaches the limit
pub record HasTooLarge (limit cost : ℕ) (edges : List Edge) : Type 0 where
  pub edge : Edge
  pub stands : Contains edges edge
  pub too_large : limit ≤ cost + edge.cost

-- whether two states are equal
abbrev pub state_eq : State → State → Bool
state_eq s t = nat_eq s.cost t.cost && nat_eq s.position t.position

-- the states that wait differ, and none is cheaper than what was found for its node
pub record AreApart (limit : ℕ) (found : List ℕ) (waiting : List State) : Type 0 where
  pub distinct : IsDistinct state_eq waiting
  pub above : (s : State) → Contains waiting s → slice_index_or found s.position limit ≤ s.cost

-- the edges of a node that costs so much were examined: found and waiting before, lower and grown after
pub record Relaxes (limit cost : ℕ) (edges : List Edge) (found : List ℕ) (waiting : List State) (lower : List ℕ) (grown : List State) : Type 0 where
  -- each node still has a cost
  pub same : length lower ≡ length found
  -- no cost found rises
  pub falls : (v : ℕ) → slice_index_or lower v limit ≤ slice_index_or found v limit
  -- no sum reached the limit, and no edge ends at a node with a greater cost found
  pub sums : (e : Edge) → Contains edges e → cost + e.cost < limit
  pub ends : (e : Edge) → Contains edges e → slice_index_or lower e.node limit ≤ cost + e.cost
  -- a state is lost only if its node has a lower cost now, and each new one came over one of the edges
  pub keeps : (s : State) → Contains waiting s → Contains grown s ⊎ (slice_index_or lower s.position limit < s.cost)
  pub adds : (s : State) → Contains grown s → Contains waiting s ⊎ IsAlong cost edges s
  -- a new state is cheaper than what was found for its node, and so none waits twice
  pub cheaper : (s : State) → Contains grown s → Contains waiting s ⊎ (s.cost < slice_index_or found s.position limit)
  pub apart : AreApart limit found waiting → AreApart limit lower grown
  -- if a cost fell, a state with it waits
  pub changes : (v : ℕ) → (slice_index_or lower v limit ≡ slice_index_or found v limit) ⊎ Contains grown (state (slice_index_or lower v limit) v)
  -- the sum of the costs fell by at least the number of states that came
  pub spent : sum lower + length grown ≤ sum found + length waiting
