-- Walks by the costs of a guided search, and by the true ones.
use Rattle.dary_heap.proofs.Common.{◌≡◌, ◌⊎◌, ℕ, suc, ◌+◌, ◌-◌, ◌<◌, ◌≤◌, Bool, true, inl, inr, List, [], ◌∷◌, map, refl, sym, ap, ◌∙◌, subst, arith}
use Rattle.dary_heap.proofs.Callers.{Contains-map}
use Rattle.std.proofs.Common.{drop, get_or, length, take, ◌++◌}
use Rattle.std.proofs.lemmas.Grind.{common_steps}
use Rattle.std.proofs.lemmas.List.{get_or-append_right, get_or-drop, get_or_default}
use Rattle.indexed_heap.proofs.shortest_path.Waiting.{Contains-map_cases}
use Rattle.graph_search.specs.Searching.{HasStuck}
use Rattle.graph_search.specs.Walk.{HasEdgeBeyond, IsWalk, IsWayToGoal, Keeps, Lists, NoGoal, NoGoalBelow, NoneCritical, NoneCriticalBelow, cost_of}
use Rattle.graph_search.specs.Guided.{HasCriticalGuided, IsConsistent, NoGoalAtZeroBelow, NoneCriticalGuided, NoneCriticalGuidedBelow, less_estimate, reduced, with_estimate}
use Rattle.graph_search.proofs.Searching.{node_of}

-- an element that a loop which maps a list in place hasn't reached
pub read_later : {X : Type 0} (f : X → X) (xs ys : List X) (i : ℕ) (x : X) → i < length xs → ys ≡ map f (take i xs) ++ drop i xs → get_or ys i x ≡ get_or xs i x
read_later {X} f xs ys i x within is =
    let long : length (map f (take i xs)) ≡ i = grind (arith, common_steps) in
    let later : get_or (map f (take i xs) ++ drop i xs) i x ≡ get_or (drop i xs) (i - i) x = get_or-append_right (map f (take i xs)) (drop i xs) i i x long (omega arith) in
    let at : get_or (drop i xs) (i - i) x ≡ get_or xs (i + (i - i)) x = get_or-drop i xs (i - i) x in
    let number : i + (i - i) ≡ i = omega arith in
    ap (λ (l : List X). get_or l i x) is ∙ later ∙ at ∙ ap (λ (j : ℕ). get_or xs j x) number

-- what is read doesn't go by the default
pub get_or_same : {X : Type 0} (xs : List X) (i : ℕ) (x y : X) → i < length xs → get_or xs i x ≡ y → get_or xs i y ≡ y
get_or_same xs i x y within is = get_or_default xs i y x within ∙ is

module _ {N : Type 0} (edge : N → N → ℕ → Type 0) (estimate : N → ℕ) where
  -- a walk by the costs of the search is one by the true costs
  pub record IsTrueWalk (u : N) (walk : List (N × ℕ)) (v : N) : Type 0 where
    pub steps : List (N × ℕ)
    pub leads : IsWalk edge u steps v
    pub nodes : map (λ (s : N × ℕ). s.0) steps ≡ map (λ (s : N × ℕ). s.0) walk
    pub costs : cost_of walk + estimate u ≡ cost_of steps + estimate v

  -- what it is for the search to be stuck at a node by the true costs
  abbrev pub IsTooDear : N → Type 0
  IsTooDear node = HasEdgeBeyond (edge node) 18446744073709551615 0 ⊎ HasEdgeBeyond (reduced edge estimate node) 18446744073709551615 0

module _ {N : Type 0} {edge : N → N → ℕ → Type 0} {estimate : N → ℕ} where
  pub true_walk : (u : N) (walk : List (N × ℕ)) (v : N) → IsWalk (reduced edge estimate) u walk v → IsTrueWalk edge estimate u walk v
  true_walk u [] v h = record { steps = []; leads = h; nodes = refl; costs = omega (arith, ap estimate h) }
  true_walk u (s ∷ walk) v h =
      let rest = true_walk s.0 walk v h.1 in
      record {
        steps = (s.0, h.0.0) ∷ rest.steps;
        leads = (h.0.1, rest.leads);
        nodes = ap (λ (l : List N). s.0 ∷ l) rest.nodes;
        costs = omega (arith, rest.costs, h.0.2);
      }

module _ {N : Type 0} {is_node : N → Type 0} {edge : N → N → ℕ → Type 0} {estimate : N → ℕ} (keeps : Keeps is_node edge) (consistent : IsConsistent is_node edge estimate) where
  -- the edges listed, by the costs of the search
  pub lists_reduced : {eq : N → N → Bool} (node : N) (edges : List (N × ℕ)) → is_node node → ((u v : N) → eq u v ≡ true → estimate u ≡ estimate v) → Lists eq (edge node) edges →
      Lists eq (reduced edge estimate node) (map (less_estimate estimate (estimate node)) edges)
  lists_reduced {eq} node edges is even lists = record {
    each = λ e h.
        let x = Contains-map_cases (less_estimate estimate (estimate node)) edges e h in
        let leads = lists.each x.0 x.1 in
        subst (λ (e : N × ℕ). reduced edge estimate node e.0 e.1) x.2 (x.0.1, leads, omega (arith, consistent node x.0.0 x.0.1 is leads));
    all = λ v cost h.
        let x = lists.all v h.0 h.1 in
        (less_estimate estimate (estimate node) x.0, Contains-map (less_estimate estimate (estimate node)) edges x.0 x.1, x.2, omega (arith, h.2, x.3, even v x.0.0 x.2));
  }

  -- a walk by the true costs is one by the costs of the search
  pub reduced_walk : (u : N) (walk : List (N × ℕ)) (v : N) → is_node u → IsWalk edge u walk v →
      (steps : List (N × ℕ)) × IsWalk (reduced edge estimate) u steps v × (cost_of steps + estimate u ≡ cost_of walk + estimate v)
  reduced_walk u [] v is h = ([], h, omega (arith, ap estimate h))
  reduced_walk u (s ∷ walk) v is h =
      let rest = reduced_walk s.0 walk v (keeps u s.0 s.1 is h.0) h.1 in
      let low = consistent u s.0 s.1 is h.0 in
      ((s.0, s.1 + estimate s.0 - estimate u) ∷ rest.0, ((s.1, h.0, omega (arith, low)), rest.1), omega (arith, rest.2, low))

  module _ {says : N → Bool → Type 0} {start : N} (begins : is_node start) where
    -- a way found by the costs of the search
    pub true_way : {nodes : List N} {less : ℕ} → ((v : N) → is_node v → says v true → estimate v ≡ 0) → IsWayToGoal (reduced edge estimate) says start nodes less →
        IsWayToGoal edge says start nodes (less + estimate start)
    true_way zero way =
        let t = true_walk start way.walk way.goal way.leads in
        let node = node_of keeps start t.steps way.goal begins t.leads in
        record {
          goal = way.goal;
          walk = t.steps;
          leads = t.leads;
          costs = omega (arith, t.costs, way.costs, zero way.goal node way.accepted);
          visits = way.visits ∙ ap (λ (l : List N). start ∷ l) (sym t.nodes);
          accepted = way.accepted;
        }

    module _ {eq : N → N → Bool} where
      pub true_least : {less : ℕ} → NoGoalBelow (reduced edge estimate) eq says start less → NoGoalAtZeroBelow edge estimate eq says start (less + estimate start)
      true_least {less = less} least' v walk leads zero below =
          let w = reduced_walk start walk v begins leads in
          least' v w.0 w.1 (omega (arith, w.2, zero, below))

      pub true_none : NoGoal (reduced edge estimate) eq says start → NoGoal edge eq says start
      true_none none v walk leads = let w = reduced_walk start walk v begins leads in none v w.0 w.1

      module _ (even : (u v : N) → eq u v ≡ true → estimate u ≡ estimate v) where
        -- a node that isn't critical by the costs of the search
        pub true_cheap : {limit less : ℕ} → NoneCriticalBelow (reduced edge estimate) eq says start limit less → NoneCriticalGuidedBelow edge estimate eq start limit (less + estimate start)
        true_cheap {limit} none v walk leads below next step leaves =
            let w = reduced_walk start walk v begins leads in
            let low = consistent v next step (node_of keeps start walk v begins leads) leaves in
            let x = none v w.0 w.1 (omega (arith, w.2, below)) next (step + estimate next - estimate v) (step, leaves, omega (arith, low)) in
            let t = true_walk start x.other x.equal x.leads in
            let same = even v x.equal x.same in
            record { equal = x.equal; same = x.same; other = t.steps; leads = t.leads; at_most = omega (arith, x.at_most, t.costs, w.2, same); fits = omega (arith, x.fits, t.costs, same, low) }

        pub all_cheap : {limit : ℕ} → NoneCritical (reduced edge estimate) eq says start limit → NoneCriticalGuided edge estimate eq start limit
        all_cheap none v walk leads next step leaves =
            true_cheap {less = suc (cost_of walk + estimate v)} (λ u other to below. none u other to) v walk leads (omega arith) next step leaves

        pub stuck_guided : HasStuck (reduced edge estimate) (IsTooDear edge estimate) eq says start 18446744073709551615 →
            HasCriticalGuided edge estimate eq says start 18446744073709551615
        stuck_guided at =
            let next = at.next in
            let t = true_walk start at.walk at.node next.leads in
            let dear : HasEdgeBeyond (reduced edge estimate at.node) 18446744073709551615 (cost_of at.walk) →
            HasEdgeBeyond (with_estimate edge estimate at.node) (18446744073709551615 + estimate start) (cost_of t.steps) =
            λ e. record { next = e.next; step = e.leaves.0 + estimate e.next; leaves = (e.leaves.0, e.leaves.1, refl); too_large = omega (arith, e.too_large, e.leaves.2, t.costs) } in
            record {
              node = at.node;
              walk = t.steps;
              next = record {
                leads = t.leads;
                least = λ v other same leads.
                    let w = reduced_walk start other v begins leads in
                    omega (arith, w.2, t.costs, even v at.node same, next.least v w.0 same w.1);
                nearest = λ v other leads zero below.
                    let w = reduced_walk start other v begins leads in
                    next.nearest v w.0 w.1 (omega (arith, w.2, t.costs, zero, below));
                refused = next.refused;
              };
              beyond = elim at.why [
                | inl e ↦ inr (dear e)
                | inr p ↦ elim p [
                  | inl e ↦ inl e
                  | inr e ↦ inr (dear (record { next = e.next; step = e.step; leaves = e.leaves; too_large = omega (arith, e.too_large) }))
                ]
              ];
            }
