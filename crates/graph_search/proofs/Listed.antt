-- What is listed of a graph that has for each number a list of edges.
use Rattle.dary_heap.proofs.Common.{◌≡◌, ℕ, ◌<◌, Bool, true, List, [], ◌∷◌, length, map, Contains, Some, slice_get, refl, sym, subst}
use Rattle.dary_heap.proofs.Callers.{Contains-map}
use Rattle.dary_heap.proofs.shortest_path.Searching.{in_row}
use Rattle.std.proofs.Common.{rules, Vec, nat_eq}
use Rattle.std.specs.declared.alloc.Global.{Global}
use Rattle.indexed_heap.proofs.shortest_path.Waiting.{Contains-map_cases}
use Rattle.dary_heap.specs.Walk.{Graph, HasEdge}
use Rattle.dary_heap.specs.declared.shortest_path.Edge.{Edge}
use Rattle.graph_search.specs.Listed.{listed}
use Rattle.graph_search.specs.Walk.{Lists}

-- what an edge is to a search
abbrev pub step_of : Edge → ℕ × ℕ
step_of e = (e.node, e.cost)

pub lists_row : (g : Graph) (u : ℕ) (row : Vec Edge Global) (edges : List (ℕ × ℕ)) → slice_get g u ≡ Some row → edges ≡ map step_of row.items → Lists nat_eq (listed g u) edges
lists_row g u row edges row_is is = record {
  each = λ e h.
      let x = Contains-map_cases step_of row.items e (subst (λ (l : List (ℕ × ℕ)). Contains l e) is h) in
      subst (λ (e : ℕ × ℕ). HasEdge g u (record { node = e.0; cost = e.1 })) x.2 (record { row = row; row_is = row_is; stands = x.1 });
  all = λ v cost h.
      let stands : Contains row.items (record { node = v; cost = cost }) = in_row g u row (record { node = v; cost = cost }) row_is h in
      ((v, cost), subst (λ (l : List (ℕ × ℕ)). Contains l (v, cost)) (sym is) (Contains-map step_of row.items (record { node = v; cost = cost }) stands), search rules, refl);
}
