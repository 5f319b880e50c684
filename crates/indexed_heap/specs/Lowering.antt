-- What a search that lowers makes of the costs found so far and of the nodes that wait. A cost found is the limit if no walk was found. Public clauses speak of the room and of the bound alone.
use Rattle.std.specs.Prelude.{◌≡◌, ◌⊎◌, ℕ, ◌+◌, ◌*◌, ◌<◌, ◌≤◌, List, Option, Some, length, slice_get, slice_index_or, map, Contains}
use Rattle.dary_heap.specs.Bounds.{pop_bound, push_bound}
use Rattle.dary_heap.specs.declared.shortest_path.Edge.{Edge}
use Rattle.dary_heap.specs.declared.shortest_path.State.{State}
use Rattle.dary_heap.specs.shortest_path.Searching.{Relaxes, state}
use Rattle.indexed_heap.specs.Entries.{AreDistinct, Gets, Indexed}

-- the heap has the room that it had
pub record HasSameRoom (old new : Indexed ℕ) : Type 0 where
  pub capacity : new.capacity ≡ old.capacity
  pub keys : new.keys ≡ old.keys

-- comparisons of so many raises among n nodes at most
abbrev pub raises_bound : ℕ → ℕ → ℕ → ℕ
raises_bound D n raises = raises * (push_bound D n + 1)

-- comparisons of a search among n nodes and so many edges: a raise for the start and for each edge, and a pop for each node
abbrev pub search_bound : ℕ → ℕ → ℕ → ℕ
search_bound D n edges = raises_bound D n (edges + 1) + n * pop_bound D n

-- nodes that wait, each with a cost, in the words of the search that pushes states
abbrev pub states : List (ℕ × ℕ) → List State
states entries = map (λ entry. state entry.1 entry.0) entries

-- the heap has room for each node, and what waits are nodes, none of them twice, each with the cost found for it
pub record IsReady (limit : ℕ) (dist : List ℕ) (heap : Indexed ℕ) : Type 0 where
  pub room : length dist ≤ heap.capacity
  pub keyed : length dist ≤ heap.keys
  pub distinct : AreDistinct heap.entries
  pub within : (e : ℕ × ℕ) → Contains heap.entries e → e.0 < length dist
  pub exact : (e : ℕ × ℕ) → Contains heap.entries e → slice_index_or dist e.0 limit ≡ e.1

-- the node waits with this cost, in place of the one that it waited with, if any
abbrev pub Waits : ℕ → ℕ → List (ℕ × ℕ) → List (ℕ × ℕ) → Type 0
Waits node cost old new = (given : Option ℕ) × Gets node cost old given new

-- the edges of a node that costs so much were examined: dist and waiting were the costs found and what waited, lower and after are
abbrev pub Lowers : ℕ → ℕ → List Edge → List ℕ → List (ℕ × ℕ) → List ℕ → List (ℕ × ℕ) → Type 0
Lowers limit cost edges dist waiting lower after = Relaxes limit cost edges dist (states waiting) lower (states after)

-- what was found for v stays, and so does what is written beside it
pub record IsKept (limit v : ℕ) (dist prev lower after : List ℕ) : Type 0 where
  pub cost : slice_index_or lower v limit ≡ slice_index_or dist v limit
  pub node : slice_get after v ≡ slice_get prev v

-- the cost of v fell to that over one of the edges, which leave the node, and the node is written beside it
pub record IsNoted (limit node cost : ℕ) (edges : List Edge) (v : ℕ) (dist lower after : List ℕ) : Type 0 where
  pub edge : Edge
  pub stands : Contains edges edge
  pub ends : v ≡ edge.node
  pub falls_to : slice_index_or lower v limit ≡ cost + edge.cost
  pub falls : cost + edge.cost < slice_index_or dist v limit
  pub noted : slice_get after v ≡ Some node

-- edges of a node that costs so much were examined, and the node was written for each end whose cost fell: dist and prev were the tables, lower and after are
pub record Notes (limit node cost : ℕ) (edges : List Edge) (dist prev lower after : List ℕ) : Type 0 where
  pub same : length after ≡ length prev
  -- a cost and what is written beside it stay, or the cost fell to that over an edge, and the node is written
  pub changes : (v : ℕ) → IsKept limit v dist prev lower after ⊎ IsNoted limit node cost edges v dist lower after
