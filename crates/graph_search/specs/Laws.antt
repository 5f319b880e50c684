-- Laws of edges, which an `impl` of `Graph` gives.
use Rattle.std.specs.Prelude.{◌≡◌, ℕ, Bool, true}
use Rattle.std.proofs.Common.{arith, length, nat_eq, rules}
use Rattle.std.proofs.Common.{All, Contains, Vec, ◌<◌}
use Rattle.std.proofs.lemmas.List.Elements.{All-contains}
use Rattle.std.proofs.lemmas.Option.{get_or_from_slice_get, slice_get_within}
use Rattle.std.specs.declared.alloc.Global.{Global}
use Rattle.dary_heap.specs.Walk.{Graph}
use Rattle.dary_heap.specs.declared.shortest_path.Edge.{Edge}
use Rattle.graph_search.specs.Guided.{reduced}
use Rattle.graph_search.specs.Listed.{IsListed, listed}
use Rattle.graph_search.specs.Walk.{AreAlike, Keeps, alike_if_same}

-- equal nodes have the same edges by these costs too
pub alike_reduced : {N : Type 0} {edge : N → N → ℕ → Type 0} {estimate : N → ℕ} {eq : N → N → Bool} → AreAlike eq edge → ((u v : N) → eq u v ≡ true → estimate u ≡ estimate v) →
    AreAlike eq (reduced edge estimate)
alike_reduced alike even u v w x cost first second h = (h.0, alike u v w x h.0 first second h.1, omega (arith, h.2, even u v first, even w x second))

-- and these edges lead to nodes
pub keeps_reduced : {N : Type 0} {is_node : N → Type 0} {edge : N → N → ℕ → Type 0} (estimate : N → ℕ) → Keeps is_node edge → Keeps is_node (reduced edge estimate)
keeps_reduced estimate keeps u v cost node h = keeps u v h.0 node h.1

-- of a graph that has for each number a list of edges
pub keeps_listed : (g : Graph) → Keeps (IsListed g) (listed g)
keeps_listed g u v cost is has =
    let n = length g in
    let row : Contains g has.row = (u, slice_get_within g u has.row has.row_is, get_or_from_slice_get g u has.row has.row has.row_is) in
    let below : All (λ (e : Edge). e.node < n) has.row.items = All-contains (λ (r : Vec Edge Global). All (λ (e : Edge). e.node < n) r.items) g has.row is.0 row in
    (is.0, All-contains (λ (e : Edge). e.node < n) has.row.items (record { node = v; cost = cost }) below has.stands)

pub alike_listed : (g : Graph) → AreAlike nat_eq (listed g)
alike_listed g = alike_if_same nat_eq (listed g) (λ x y same. search rules)
