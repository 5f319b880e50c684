-- Walks in a graph whose nodes are values, what they cost, and what a search says of them. Nothing here knows of a search. An edge leads from a node to another at a cost.
use Rattle.std.specs.Prelude.{◌≡◌, ℕ, ◌+◌, ◌<◌, ◌≤◌, Bool, true, false, List, [], ◌∷◌, map, Contains, refl}
use mathlib.Core.Path.{subst, sym}

-- what a walk costs: the sum of what its steps cost. A step has the node that it ends at, and its cost
abbrev pub cost_of : {N : Type 0} → List (N × ℕ) → ℕ
cost_of [] = 0
cost_of (step ∷ walk) = step.1 + cost_of walk

-- the edges listed are those that lead somewhere at a cost: each is one, and each is there, to a node that is equal
pub record Lists {N : Type 0} (eq : N → N → Bool) (leads : N → ℕ → Type 0) (edges : List (N × ℕ)) : Type 0 where
  pub each : (e : N × ℕ) → Contains edges e → leads e.0 e.1
  pub all : (v : N) (cost : ℕ) → leads v cost → (e : N × ℕ) × Contains edges e × (eq v e.0 ≡ true) × (e.1 ≡ cost)

-- an edge costs so much that it makes a cost exceed the limit
pub record HasEdgeBeyond {N : Type 0} (leads : N → ℕ → Type 0) (limit cost : ℕ) : Type 0 where
  pub next : N
  pub step : ℕ
  pub leaves : leads next step
  pub too_large : limit < cost + step

-- a node equal to this one was refused: it isn't a goal
pub record IsRefused {N : Type 0} (eq : N → N → Bool) (says : N → Bool → Type 0) (node : N) : Type 0 where
  pub equal : N
  pub same : eq node equal ≡ true
  pub refused : says equal false

module _ {N : Type 0} (edge : N → N → ℕ → Type 0) where
  -- the steps lead from u to v: each takes an edge that leaves the node where the one before ended. The empty walk leads from a node to itself
  abbrev pub IsWalk : N → List (N × ℕ) → N → Type 0
  IsWalk u [] v = u ≡ v
  IsWalk u (step ∷ walk) v = edge u step.0 step.1 × IsWalk step.0 walk v

  -- the nodes are start and then those at which the steps of some walk end, the last is a goal, and that walk costs so much
  pub record IsWayToGoal (says : N → Bool → Type 0) (start : N) (nodes : List N) (cost : ℕ) : Type 0 where
    pub goal : N
    pub walk : List (N × ℕ)
    pub leads : IsWalk start walk goal
    pub costs : cost_of walk ≡ cost
    pub visits : nodes ≡ start ∷ map (λ step. step.0) walk
    pub accepted : says goal true

  module _ (eq : N → N → Bool) (says : N → Bool → Type 0) (start : N) where
    -- each walk that costs less ends at no goal
    abbrev pub NoGoalBelow : ℕ → Type 0
    NoGoalBelow cost = (v : N) (walk : List (N × ℕ)) → IsWalk start walk v → cost_of walk < cost → IsRefused eq says v

    -- no walk ends at a goal
    abbrev pub NoGoal : Type 0
    NoGoal = (v : N) (walk : List (N × ℕ)) → IsWalk start walk v → IsRefused eq says v

    -- the node that a walk ends at isn't critical over an edge that costs so much: a walk to an equal node costs no more, and with the edge no more than the limit
    pub record IsCheap (limit : ℕ) (v : N) (walk : List (N × ℕ)) (step : ℕ) : Type 0 where
      pub equal : N
      pub same : eq v equal ≡ true
      pub other : List (N × ℕ)
      pub leads : IsWalk start other equal
      pub at_most : cost_of other ≤ cost_of walk
      pub fits : cost_of other + step ≤ limit

    -- no node that is nearer is critical
    abbrev pub NoneCriticalBelow : ℕ → ℕ → Type 0
    NoneCriticalBelow limit cost =
        (v : N) (walk : List (N × ℕ)) → IsWalk start walk v → cost_of walk < cost → (next : N) (step : ℕ) → edge v next step → IsCheap limit v walk step

    -- no node is critical
    abbrev pub NoneCritical : ℕ → Type 0
    NoneCritical limit = (v : N) (walk : List (N × ℕ)) → IsWalk start walk v → (next : N) (step : ℕ) → edge v next step → IsCheap limit v walk step

    -- a walk to the node costs least, the node isn't a goal, and no goal is nearer
    pub record IsNext (node : N) (walk : List (N × ℕ)) : Type 0 where
      pub leads : IsWalk start walk node
      pub least : (v : N) (other : List (N × ℕ)) → eq v node ≡ true → IsWalk start other v → cost_of walk ≤ cost_of other
      pub nearest : NoGoalBelow (cost_of walk)
      pub refused : says node false

    -- a node is critical: it isn't a goal, no goal is nearer, and its least cost with what one of its edges costs exceeds the limit
    pub record HasCritical (limit : ℕ) : Type 0 where
      pub node : N
      pub walk : List (N × ℕ)
      pub next : IsNext node walk
      pub beyond : HasEdgeBeyond (edge node) limit (cost_of walk)

-- the edges of a node lead to nodes
abbrev pub Keeps : {N : Type 0} → (N → Type 0) → (N → N → ℕ → Type 0) → Type 0
Keeps {N} is_node edge = (u v : N) (cost : ℕ) → is_node u → edge u v cost → is_node v

-- equal nodes have the same edges
abbrev pub AreAlike : {N : Type 0} → (N → N → Bool) → (N → N → ℕ → Type 0) → Type 0
AreAlike {N} eq edge = (u v w x : N) (cost : ℕ) → eq u v ≡ true → eq w x ≡ true → edge u w cost → edge v x cost

-- so it is where equal nodes are the same
pub alike_if_same : {N : Type 0} (eq : N → N → Bool) (edge : N → N → ℕ → Type 0) → ((x y : N) → eq x y ≡ true → x ≡ y) → AreAlike eq edge
alike_if_same {N} eq edge same u v w x cost first second leads =
    subst (λ (y : N). edge y x cost) (same u v first) (subst (λ (y : N). edge u y cost) (same w x second) leads)

-- a list lists what it has
pub lists_itself : {N : Type 0} {eq : N → N → Bool} → ((v : N) → eq v v ≡ true) → (edges these : List (N × ℕ)) → these ≡ edges → Lists eq (λ v cost. Contains edges (v, cost)) these
lists_itself {N} {eq} itself edges these is = record {
  each = λ e h. subst (λ (l : List (N × ℕ)). Contains l e) is h;
  all = λ v cost h. ((v, cost), subst (λ (l : List (N × ℕ)). Contains l (v, cost)) (sym is) h, itself v, refl);
}
