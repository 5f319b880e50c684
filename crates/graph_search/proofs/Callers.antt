-- What a caller needs: that its `edges_from` lists the edges, and what holds of each node of a way.
use Rattle.std.proofs.Common.{◌≡◌, ℕ, Bool, true, List, [], ◌∷◌, All, Contains, ap, map, sym, subst}
use Rattle.dary_heap.proofs.Callers.{Contains-map}
use Rattle.indexed_heap.proofs.shortest_path.Waiting.{Contains-map_cases}
use Rattle.std.proofs.lemmas.List.Elements.{All-cons, All-nil}
use Rattle.graph_search.specs.Keys.{IsKey, steps_by}
use Rattle.graph_search.specs.Walk.{IsWalk, IsWayToGoal, Keeps, Lists}

-- the edges listed are the steps that leave the node's key
pub lists_by_key : {N K : Type 0} {eq : N → N → Bool} {key : N → K} → IsKey eq key → (steps : K → List (K × ℕ)) → (node : N) (edges : List (N × ℕ)) →
    map (λ e. (key e.0, e.1)) edges ≡ steps (key node) →
    Lists eq (steps_by key steps node) edges
lists_by_key {N} {K} {eq} {key} is steps node edges listed =
    let step_of : N × ℕ → K × ℕ = λ e. (key e.0, e.1) in
    record {
      each = λ e h. subst (λ (l : List (K × ℕ)). Contains l (key e.0, e.1)) listed (Contains-map step_of edges e h);
      all = λ v cost h.
          let x = Contains-map_cases step_of edges (key v, cost) (subst (λ (l : List (K × ℕ)). Contains l (key v, cost)) (sym listed) h) in
          let same : key x.0.0 ≡ key v = ap (λ (p : K × ℕ). p.0) x.2 in
          let costs : x.0.1 ≡ cost = ap (λ (p : K × ℕ). p.1) x.2 in
          (x.0, x.1, is.equal v x.0.0 (sym same), costs);
    }

-- each node that a walk visits is a node of the graph
pub walk_nodes : {N : Type 0} {is_node : N → Type 0} {edge : N → N → ℕ → Type 0} → Keeps is_node edge → (u : N) (walk : List (N × ℕ)) (v : N) → is_node u → IsWalk edge u walk v →
    All is_node (map (λ (s : N × ℕ). s.0) walk)
walk_nodes {is_node = is_node} keeps u [] v node leads = All-nil is_node
walk_nodes {is_node = is_node} keeps u (s ∷ walk) v node leads =
    let next = keeps u s.0 s.1 node leads.0 in
    All-cons is_node s.0 (map (λ s. s.0) walk) next (walk_nodes keeps s.0 walk v next leads.1)

-- and so is each node of a way
pub way_nodes : {N : Type 0} {is_node : N → Type 0} {edge : N → N → ℕ → Type 0} {says : N → Bool → Type 0} {start : N} {nodes : List N} {cost : ℕ} → Keeps is_node edge → is_node start →
    IsWayToGoal edge says start nodes cost → All is_node nodes
way_nodes {N} {is_node} {start = start} keeps node way =
    subst (λ (l : List N). All is_node l) (sym way.visits) (All-cons is_node start (map (λ s. s.0) way.walk) node (walk_nodes keeps start way.walk way.goal node way.leads))
