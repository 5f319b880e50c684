-- Walks in a graph, what they cost, and the nodes whose edges cost too much. Nothing here knows of a search.
use Rattle.std.specs.Prelude.{◌≡◌, ◌≢◌, ℕ, ◌+◌, ◌<◌, ◌≤◌, List, [], ◌∷◌, Vec, Some, slice_get, Contains, All}
use Rattle.std.specs.declared.alloc.Global.{Global}
use Rattle.dary_heap.specs.declared.shortest_path.Edge.{Edge}

-- for each node the list of the edges that leave it. The nodes are the numbers below its length
abbrev pub Graph : Type 0
Graph = List (Vec Edge Global)

-- each edge leads to a node below n
abbrev pub IsWithin : ℕ → Graph → Type 0
IsWithin n g = All (λ row. All (λ e. e.node < n) row.items) g

-- the edge e leaves node u
pub record HasEdge (g : Graph) (u : ℕ) (e : Edge) : Type 0 where
  pub row : Vec Edge Global
  pub row_is : slice_get g u ≡ Some row
  pub stands : Contains row.items e

-- the edges lead from u to v: the first leaves u, each other leaves the node where the one before ended, and the last ends at v. The empty walk leads from a node to itself
abbrev pub IsWalk : Graph → ℕ → List Edge → ℕ → Type 0
IsWalk g u [] v = u ≡ v
IsWalk g u (e ∷ walk) v = HasEdge g u e × IsWalk g e.node walk v

-- what a walk costs: the sum of what its edges cost
abbrev pub cost_of : List Edge → ℕ
cost_of [] = 0
cost_of (e ∷ walk) = e.cost + cost_of walk

-- some walk from u to v costs c, and none costs less
pub record IsLeastCost (g : Graph) (u v c : ℕ) : Type 0 where
  pub walk : List Edge
  pub leads : IsWalk g u walk v
  pub costs : cost_of walk ≡ c
  pub least : (other : List Edge) → IsWalk g u other v → c ≤ cost_of other

-- no walk leads from u to v
abbrev pub IsUnreached : Graph → ℕ → ℕ → Type 0
IsUnreached g u v = (walk : List Edge) → IsWalk g u walk v → ⊥

-- node v is critical: it isn't the goal, its least cost from start is c, and with what one of its edges costs that reaches the limit
pub record IsCritical (limit : ℕ) (g : Graph) (start goal v c : ℕ) : Type 0 where
  pub other : v ≢ goal
  pub reached : IsLeastCost g start v c
  pub edge : Edge
  pub leaves : HasEdge g v edge
  pub too_large : limit ≤ c + edge.cost

-- some critical node's least cost is at most the cost of every walk to the goal
pub record HasCritical (limit : ℕ) (g : Graph) (start goal : ℕ) : Type 0 where
  pub node : ℕ
  pub cost : ℕ
  pub critical : IsCritical limit g start goal node cost
  pub at_most : (walk : List Edge) → IsWalk g start walk goal → cost ≤ cost_of walk

-- no critical node's least cost is below the cost of every walk to the goal
abbrev pub NoneCriticalBelow : ℕ → Graph → ℕ → ℕ → Type 0
NoneCriticalBelow limit g start goal = (v c : ℕ) → IsCritical limit g start goal v c → ((walk : List Edge) → IsWalk g start walk goal → c < cost_of walk) → ⊥
