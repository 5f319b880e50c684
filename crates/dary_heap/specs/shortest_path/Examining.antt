-- How often a search examines edges and pushes states. Only private functions speak of it.
use Rattle.std.specs.Prelude.{◌≡◌, ℕ, zero, suc, ◌+◌, ◌-◌, ◌*◌, ◌≤◌, nat_eq, List, [], ◌∷◌, ◌++◌, length}
use Rattle.std.specs.List.{IsDistinct}
use Rattle.dary_heap.specs.Bounds.{RisesWithin, push_bound}
use Rattle.dary_heap.specs.Contents.{Contents}
use Rattle.dary_heap.specs.Walk.{Graph}
use Rattle.dary_heap.specs.declared.shortest_path.Edge.{Edge}
use Rattle.dary_heap.specs.declared.shortest_path.State.{State}

-- the heap has no fewer states and at most so many more, and no more comparisons were made than pushes of those take
pub record Pushes (D most : ℕ) (old new : Contents State) : Type 0 where
  pub more : length old.items ≤ length new.items
  pub few : length new.items ≤ length old.items + most
  pub counted : RisesWithin old.comparisons new.comparisons ((length new.items - length old.items) * push_bound D (length new.items - 1))

-- of these edges the first ones were examined in their order, each once, with a push for each at most
pub record AreExamined (D : ℕ) (edges before after : List Edge) (old new : Contents State) : Type 0 where
  pub these : List Edge
  pub others : List Edge
  pub first : edges ≡ these ++ others
  pub examined : after ≡ before ++ these
  pub pushes : Pushes D (length these) old new

-- the edges that leave a node
abbrev pub edges_of : Graph → ℕ → List Edge
edges_of [] u = []
edges_of (row ∷ rows) zero = row.items
edges_of (row ∷ rows) (suc u) = edges_of rows u

-- the edges that leave these nodes, in turn
abbrev pub all_edges_of : Graph → List ℕ → List Edge
all_edges_of g [] = []
all_edges_of g (u ∷ nodes) = edges_of g u ++ all_edges_of g nodes

-- these edges were examined, in turn: all that leave some nodes, of which no two are the same, except perhaps some of the last node
pub record AreExaminedOnce (g : Graph) (examined : List Edge) : Type 0 where
  pub nodes : List ℕ
  pub distinct : IsDistinct nat_eq nodes
  pub left : List Edge
  pub in_turn : all_edges_of g nodes ≡ examined ++ left
