-- Estimates of what is still to go, and the costs that a search goes by that has them.
use Rattle.std.specs.Prelude.{◌≡◌, ◌⊎◌, ℕ, ◌+◌, ◌-◌, ◌<◌, ◌≤◌, Bool, true, false, List}
use Rattle.graph_search.specs.Walk.{HasEdgeBeyond, IsRefused, IsWalk, IsWayToGoal, cost_of}

module _ {N : Type 0} (edge : N → N → ℕ → Type 0) (estimate : N → ℕ) where
  -- an edge, which costs more by the estimate at its end and less by that at its beginning
  abbrev pub reduced : N → N → ℕ → Type 0
  reduced u v cost = (true_cost : ℕ) × edge u v true_cost × (cost + estimate u ≡ true_cost + estimate v)

  -- an edge, which costs more by the estimate at its end
  abbrev pub with_estimate : N → N → ℕ → Type 0
  with_estimate u v cost = (true_cost : ℕ) × edge u v true_cost × (cost ≡ true_cost + estimate v)

-- over an edge of a node the estimate falls by no more than the edge costs
abbrev pub IsConsistent : {N : Type 0} → (N → Type 0) → (N → N → ℕ → Type 0) → (N → ℕ) → Type 0
IsConsistent {N} is_node edge estimate = (u v : N) (cost : ℕ) → is_node u → edge u v cost → estimate u ≤ cost + estimate v

-- so much an edge costs then that leaves a node with this estimate
abbrev pub less_estimate : {N : Type 0} → (N → ℕ) → ℕ → N × ℕ → N × ℕ
less_estimate estimate from e = (e.0, e.1 + estimate e.0 - from)

module _ {N : Type 0} (edge : N → N → ℕ → Type 0) (estimate : N → ℕ) (eq : N → N → Bool) where
  module _ (start : N) where
    -- the node that a walk ends at isn't critical over an edge to the next node: a walk to an equal node costs no more, and with the edge and the estimate at its end no more than the limit with the estimate at the start
    pub record IsCheapGuided (limit : ℕ) (v : N) (walk : List (N × ℕ)) (next : N) (step : ℕ) : Type 0 where
      pub equal : N
      pub same : eq v equal ≡ true
      pub other : List (N × ℕ)
      pub leads : IsWalk edge start other equal
      pub at_most : cost_of other ≤ cost_of walk
      pub fits : cost_of other + step + estimate next ≤ limit + estimate start

    -- no node that costs less with its estimate is critical
    abbrev pub NoneCriticalGuidedBelow : ℕ → ℕ → Type 0
    NoneCriticalGuidedBelow limit cost =
        (v : N) (walk : List (N × ℕ)) → IsWalk edge start walk v → cost_of walk + estimate v < cost → (next : N) (step : ℕ) → edge v next step → IsCheapGuided limit v walk next step

    -- no node is critical
    abbrev pub NoneCriticalGuided : ℕ → Type 0
    NoneCriticalGuided limit = (v : N) (walk : List (N × ℕ)) → IsWalk edge start walk v → (next : N) (step : ℕ) → edge v next step → IsCheapGuided limit v walk next step

  module _ (says : N → Bool → Type 0) (start : N) where
    -- each walk that costs less, to where the estimate is 0, ends at no goal
    abbrev pub NoGoalAtZeroBelow : ℕ → Type 0
    NoGoalAtZeroBelow cost = (v : N) (walk : List (N × ℕ)) → IsWalk edge start walk v → estimate v ≡ 0 → cost_of walk < cost → IsRefused eq says v

    -- a walk to the node costs least, the node isn't a goal, and no goal costs less than the node with its estimate
    pub record IsNextGuided (node : N) (walk : List (N × ℕ)) : Type 0 where
      pub leads : IsWalk edge start walk node
      pub least : (v : N) (other : List (N × ℕ)) → eq v node ≡ true → IsWalk edge start other v → cost_of walk ≤ cost_of other
      pub nearest : NoGoalAtZeroBelow (cost_of walk + estimate node)
      pub refused : says node false

    -- a node is critical: one of its edges costs more than the limit, or its least cost with such an edge and the estimate at its end exceeds the limit with the estimate at the start
    pub record HasCriticalGuided (limit : ℕ) : Type 0 where
      pub node : N
      pub walk : List (N × ℕ)
      pub next : IsNextGuided node walk
      pub beyond : HasEdgeBeyond (edge node) limit 0 ⊎ HasEdgeBeyond (with_estimate edge estimate node) (limit + estimate start) (cost_of walk)

    -- a way to a goal costs more than the limit, and none costs less
    pub record HasDearWay (limit : ℕ) : Type 0 where
      pub nodes : List N
      pub cost : ℕ
      pub way : IsWayToGoal edge says start nodes cost
      pub dear : limit < cost
      pub least : NoGoalAtZeroBelow cost
