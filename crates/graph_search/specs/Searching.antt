-- What a search makes of the nodes found so far, of their costs and of the nodes that wait. Only private functions speak of these. The names are the nodes found, by their numbers.
use Rattle.std.specs.Prelude.{◌≡◌, ◌≢◌, ◌⊎◌, ℕ, ◌+◌, ◌-◌, ◌<◌, ◌≤◌, Bool, true, false, List, [], ◌∷◌, ◌++◌, Some, slice_get, length, max, reverse, Contains}
use Rattle.std.specs.List.{IsDistinct}
use Rattle.graph_search.specs.Walk.{HasEdgeBeyond, IsNext, IsWalk, cost_of}
use Rattle.graph_search.specs.declared.search.Reached.{Reached}

-- a node has this number, which is new or that of an equal node
pub record Numbers {N : Type 0} (eq : N → N → Bool) (node : N) (number : ℕ) (names more : List N) : Type 0 where
  pub stored : N
  pub there : slice_get more number ≡ Some stored
  pub same : eq node stored ≡ true
  pub either : (more ≡ names) ⊎ ((more ≡ names ++ node ∷ []) × (stored ≡ node) × (number ≡ length names))

-- what is known of the nodes found: the nodes, how each was reached, and which wait at which cost
pub record Tables (N : Type 0) : Type 0 where
  pub names : List N
  pub reached : List Reached
  pub entries : List (ℕ × ℕ)

abbrev pub tables : {N : Type 0} → List N → List Reached → List (ℕ × ℕ) → Tables N
tables names reached entries = record { names = names; reached = reached; entries = entries }

-- at this number stands a cost that was lower than the one before, if any, and nothing else changed
pub record Sets (number cost before : ℕ) (old new : List Reached) : Type 0 where
  pub long : length new ≡ max (length old) (number + 1)
  pub now : slice_get new number ≡ Some (record { cost = cost; before = before })
  pub falls : (how : Reached) → slice_get old number ≡ Some how → cost < how.cost
  pub others : (i : ℕ) → i ≢ number → slice_get new i ≡ slice_get old i

-- nothing changed, since the cost that stands there isn't greater
pub record IsKnown (number cost : ℕ) (old new : List Reached) : Type 0 where
  pub same : new ≡ old
  pub how : Reached
  pub there : slice_get old number ≡ Some how
  pub at_most : how.cost ≤ cost

-- the node with this number waits at this cost now, and no other entry changed
pub record IsRaised (number cost : ℕ) (old new : List (ℕ × ℕ)) : Type 0 where
  pub waits : Contains new (number, cost)
  pub kept : (e : ℕ × ℕ) → Contains old e → Contains new e ⊎ (e.0 ≡ number)
  pub came : (e : ℕ × ℕ) → Contains new e → ((number, cost) ≡ e) ⊎ (Contains old e × (e.0 ≢ number))

-- what was reached at this number costs so much
pub record CostsAt (reached : List Reached) (number cost : ℕ) : Type 0 where
  pub how : Reached
  pub there : slice_get reached number ≡ Some how
  pub is : how.cost ≡ cost

-- the node is no goal, and its edges can't be examined: what one of them costs makes its cost exceed the limit, or the graph refuses to list them
pub record IsStuck {N : Type 0} (edge : N → N → ℕ → Type 0) (refuses : N → Type 0) (says : N → Bool → Type 0) (limit : ℕ) (node : N) (cost : ℕ) : Type 0 where
  pub refused : says node false
  pub why : HasEdgeBeyond (edge node) limit cost ⊎ refuses node

-- the search is stuck at a node: no goal is nearer, and a walk to it costs least
pub record HasStuck {N : Type 0} (edge : N → N → ℕ → Type 0) (refuses : N → Type 0) (eq : N → N → Bool) (says : N → Bool → Type 0) (start : N) (limit : ℕ) : Type 0 where
  pub node : N
  pub walk : List (N × ℕ)
  pub next : IsNext edge eq says start node walk
  pub why : HasEdgeBeyond (edge node) limit (cost_of walk) ⊎ refuses node

-- what the way back is read from: the nodes taken are of different numbers, and each but the first was reached over one taken earlier
pub record AreTraced {N : Type 0} (names : List N) (reached : List Reached) (taken : List ℕ) : Type 0 where
  pub some : 0 < length taken
  pub inside : (k i : ℕ) → slice_get taken k ≡ Some i → (i < length names) × (i < length reached)
  pub once : (j k i : ℕ) → slice_get taken j ≡ Some i → slice_get taken k ≡ Some i → j ≡ k
  pub order : (k i : ℕ) (how : Reached) → slice_get taken k ≡ Some i → slice_get reached i ≡ Some how → k ≢ 0 → how.before < k

-- the node taken at place k, which was reached as how
pub record IsTaken {N : Type 0} (names : List N) (reached : List Reached) (taken : List ℕ) (k : ℕ) (node : N) (how : Reached) : Type 0 where
  pub number : ℕ
  pub at : slice_get taken k ≡ Some number
  pub there : slice_get names number ≡ Some node
  pub costs : slice_get reached number ≡ Some how

-- read from place k back to place m, these nodes were taken, that at m left out
abbrev pub AreReadBack : {N : Type 0} → List N → List Reached → List ℕ → ℕ → List N → ℕ → Type 0
AreReadBack names reached taken k [] m = k ≡ m
AreReadBack names reached taken k (node ∷ nodes) m = (how : Reached) × IsTaken names reached taken k node how × (k ≢ 0) × AreReadBack names reached taken how.before nodes m

-- the way back was read, and these are its nodes the other way round
pub record IsReadOff {N : Type 0} (names : List N) (reached : List Reached) (taken : List ℕ) (way : List N) : Type 0 where
  pub first : N
  pub how : Reached
  pub nodes : List N
  pub back : AreReadBack names reached taken (length taken - 1) nodes 0
  pub begins : IsTaken names reached taken 0 first how
  pub is : way ≡ first ∷ reverse nodes

module _ {N : Type 0} where
  -- each name has an entry in the table, and what waits are nodes found, each at its cost
  pub record IsReady (t : Tables N) : Type 0 where
    pub long : length t.reached ≡ length t.names
    pub exact : (e : ℕ × ℕ) → Contains t.entries e → (how : Reached) × (slice_get t.reached e.0 ≡ Some how) × (how.cost ≡ e.1)

  module _ (eq : N → N → Bool) where
    -- a node equal to this one was found, and costs so much at most
    pub record IsFound (t : Tables N) (node : N) (most : ℕ) : Type 0 where
      pub number : ℕ
      pub name : N
      pub there : slice_get t.names number ≡ Some name
      pub same : eq node name ≡ true
      pub how : Reached
      pub costs : slice_get t.reached number ≡ Some how
      pub at_most : how.cost ≤ most

    -- a walk to the node, over the node taken at place before, was noted if it was cheaper than what was known
    pub record Finds (node : N) (cost before : ℕ) (old new : Tables N) : Type 0 where
      pub number : ℕ
      pub name : N
      pub there : slice_get new.names number ≡ Some name
      pub same : eq node name ≡ true
      pub unique : IsDistinct eq new.names
      pub ready : IsReady new
      pub names : (i : ℕ) (u : N) → slice_get old.names i ≡ Some u → slice_get new.names i ≡ Some u
      pub fresh : old.names ≡ [] → (number ≡ 0) × (name ≡ node)
      pub either :
          (IsKnown number cost old.reached new.reached × (new.entries ≡ old.entries))
          ⊎ (Sets number cost before old.reached new.reached × IsRaised number cost old.entries new.entries)

  module _ (edge : N → N → ℕ → Type 0) (eq : N → N → Bool) (says : N → Bool → Type 0) (start : N) (limit : ℕ) where
    -- some walk leads to the node at this cost
    pub record Reaches (node : N) (cost : ℕ) : Type 0 where
      pub walk : List (N × ℕ)
      pub leads : IsWalk edge start walk node
      pub costs : cost_of walk ≡ cost

    -- the node is no goal, and each of its edges leads to a node found that costs no more than over this edge
    pub record IsExamined (t : Tables N) (node : N) (cost : ℕ) : Type 0 where
      pub refused : says node false
      pub ends : (v : N) (step : ℕ) → edge node v step → IsFound eq t v (cost + step)
      pub sums : (v : N) (step : ℕ) → edge node v step → cost + step ≤ limit

    -- the node was reached by an edge from the one that was taken at the place noted
    pub record IsOverEdge (t : Tables N) (taken : List ℕ) (node : N) (how : Reached) : Type 0 where
      pub from : ℕ
      pub place : slice_get taken how.before ≡ Some from
      pub name : N
      pub there : slice_get t.names from ≡ Some name
      pub was : Reached
      pub costs : slice_get t.reached from ≡ Some was
      pub step : ℕ
      pub leads : edge name node step
      pub sum : how.cost ≡ was.cost + step

    -- the numbers of the nodes taken in turn, of which the first ones were examined; none that was taken costs more than the level, and none that waits less
    pub record IsSearch (t : Tables N) (taken : List ℕ) (examined level : ℕ) : Type 0 where
      pub ready : IsReady t
      pub unique : IsDistinct eq t.names
      pub named : slice_get t.names 0 ≡ Some start
      pub begun : IsFound eq t start 0
      pub inside : (k i : ℕ) → slice_get taken k ≡ Some i → i < length t.reached
      pub below : (k i : ℕ) (how : Reached) → slice_get taken k ≡ Some i → slice_get t.reached i ≡ Some how → how.cost ≤ level
      pub above : (e : ℕ × ℕ) → Contains t.entries e → level ≤ e.1
      pub apart : (k i : ℕ) (e : ℕ × ℕ) → slice_get taken k ≡ Some i → Contains t.entries e → e.0 ≢ i
      pub once : (j k i : ℕ) → slice_get taken j ≡ Some i → slice_get taken k ≡ Some i → j ≡ k
      pub done : (k i : ℕ) (u : N) (how : Reached) → k < examined → slice_get taken k ≡ Some i → slice_get t.names i ≡ Some u → slice_get t.reached i ≡ Some how → IsExamined t u how.cost
      pub settled : (i : ℕ) (how : Reached) → slice_get t.reached i ≡ Some how → Contains t.entries (i, how.cost) ⊎ ((k : ℕ) × (slice_get taken k ≡ Some i))
      pub walks : (i : ℕ) (u : N) (how : Reached) → slice_get t.names i ≡ Some u → slice_get t.reached i ≡ Some how → Reaches u how.cost
      pub free : (how : Reached) → slice_get t.reached 0 ≡ Some how → how.cost ≡ 0
      pub comes : (i : ℕ) (u : N) (how : Reached) → slice_get t.names i ≡ Some u → slice_get t.reached i ≡ Some how → (i ≡ 0) ⊎ IsOverEdge t taken u how
      pub order : (k i : ℕ) (how : Reached) → slice_get taken k ≡ Some i → slice_get t.reached i ≡ Some how → ((k ≡ 0) × (i ≡ 0)) ⊎ ((how.before < k) × (i ≢ 0))
