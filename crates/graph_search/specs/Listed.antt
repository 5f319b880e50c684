-- Graphs that have for each number a list of edges: those of the searches over numbers.
use Rattle.std.specs.Prelude.{ℕ, ◌<◌, length}
use Rattle.dary_heap.specs.Walk.{Graph, HasEdge, IsWithin}

-- a number is a node, and each edge leads to one
abbrev pub IsListed : Graph → ℕ → Type 0
IsListed g u = IsWithin (length g) g × (u < length g)

-- an edge that stands in the list of the node that it leaves
abbrev pub listed : Graph → ℕ → ℕ → ℕ → Type 0
listed g u v cost = HasEdge g u (record { node = v; cost = cost })
