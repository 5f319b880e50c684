-- Ways: the nodes of a walk, and tables that name for a node the one before it.
use Rattle.std.specs.Prelude.{◌≡◌, ◌≢◌, ℕ, ◌<◌, List, [], ◌∷◌, Some, slice_get, slice_index_or, map, reverse}
use Rattle.dary_heap.specs.declared.shortest_path.Edge.{Edge}
use Rattle.dary_heap.specs.Walk.{Graph, IsLeastCost, IsWalk, cost_of}

-- the nodes are start and then those at which the edges of some walk to goal end, and that walk costs so much
pub record IsWayOf (g : Graph) (start goal : ℕ) (nodes : List ℕ) (cost : ℕ) : Type 0 where
  pub walk : List Edge
  pub leads : IsWalk g start walk goal
  pub costs : cost_of walk ≡ cost
  pub visits : nodes ≡ start ∷ map (λ e. e.node) walk

-- the table names these nodes one after another, the first for v, and the last is start, which is none of the others
abbrev pub IsNamedFrom : List ℕ → ℕ → ℕ → List ℕ → Type 0
IsNamedFrom prev start v [] = v ≡ start
IsNamedFrom prev start v (u ∷ nodes) = (v ≢ start) × (slice_get prev v ≡ Some u) × IsNamedFrom prev start u nodes

-- read from v on, the table comes back to start
abbrev pub ComesBack : List ℕ → ℕ → ℕ → Type 0
ComesBack prev start v = (nodes : List ℕ) × IsNamedFrom prev start v nodes

-- v and the nodes that the table names from there, in reverse, are a way from start to v, of a walk that costs so much
pub record LeadsBack (g : Graph) (start v cost : ℕ) (prev : List ℕ) : Type 0 where
  pub nodes : List ℕ
  pub named : IsNamedFrom prev start v nodes
  pub way : IsWayOf g start v (reverse (v ∷ nodes)) cost

-- the table leads back from each node with a cost found, over a walk of that cost
abbrev pub AllLeadBack : ℕ → Graph → ℕ → List ℕ → List ℕ → Type 0
AllLeadBack limit g start dist prev = (v : ℕ) → slice_index_or dist v limit < limit → LeadsBack g start v (slice_index_or dist v limit) prev

-- if walks to goal all cost more than the least cost of v, the cost found for v is that least cost, and below the limit
abbrev pub FindsNearer : ℕ → Graph → ℕ → ℕ → List ℕ → Type 0
FindsNearer limit g start goal dist =
    (v c : ℕ) → IsLeastCost g start v c → ((walk : List Edge) → IsWalk g start walk goal → c < cost_of walk) → (slice_index_or dist v limit ≡ c) × (c < limit)
