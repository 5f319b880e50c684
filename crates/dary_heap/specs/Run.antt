-- What a list of commands makes of a heap.
use Rattle.std.specs.Prelude.{◌≡◌, ℕ, ◌+◌, ◌-◌, ◌<◌, ◌≤◌, Bool, List, [], ◌∷◌, ◌++◌, length, max, min}
use Rattle.std.specs.declared.cmp.Ordering.{Ordering}
use Rattle.dary_heap.specs.Asking.{items_in}
use Rattle.dary_heap.specs.Bag.{IsSubBag}
use Rattle.dary_heap.specs.Bounds.{RisesWithin, charge, charges}
use Rattle.dary_heap.specs.Contents.{Contents}
use Rattle.dary_heap.specs.HeapOrder.{IsHeapOrdered}
use Rattle.dary_heap.specs.Machine.{Command, Reply, Push, Pop, PopIf, Ask, Len, Extend, Append, Reserve, Shrink, Drain, Pushed, PushRefused, Done, ExtendRefused, AppendRefused, Refused}
use Rattle.dary_heap.specs.Machine.{Taken, Step, Steps, last_state}
use Rattle.dary_heap.specs.BagState.{IsState}

-- how many pushes there is room for
abbrev pub room : {T : Type 0} → Contents T → ℕ
room heap = heap.capacity - length heap.items

-- if so many pushes are sure, a push replies `Pushed` as long as there is one
abbrev pub IsServed : {T P : Type 0} → ℕ → Command T P → Reply T → Type 0
IsServed sure (Push x) reply = 0 < sure → reply ≡ Pushed
IsServed sure command reply = Unit {0}

-- how many pushes are sure after a step before which so many were. A push uses one up, a reserve that replied `Done`
-- makes as many sure as it asked for, and after any command but these, a pop, a question and a count, none is
abbrev pub sure_after : {T P : Type 0} → ℕ → Command T P → Reply T → ℕ
sure_after sure (Push x) reply = sure - 1
sure_after sure Pop reply = sure
sure_after sure (PopIf p) reply = sure
sure_after sure (Ask p) reply = sure
sure_after sure Len reply = sure
sure_after sure (Reserve n) Done = n
sure_after sure command reply = 0

-- how many pushes are sure after a run before which so many were
abbrev pub sure_at_end : {T P : Type 0} → ℕ → List (Command T P) → List (Reply T) → ℕ
sure_at_end sure (command ∷ commands) (reply ∷ replies) = sure_at_end (sure_after sure command reply) commands replies
sure_at_end sure commands replies = sure

-- in a run before which so many pushes are sure, each push that is sure replies `Pushed`
abbrev pub PushesServed : {T P : Type 0} → ℕ → List (Command T P) → List (Reply T) → Type 0
PushesServed sure [] replies = Unit {0}
PushesServed sure (command ∷ commands) [] = Unit {0}
PushesServed sure (command ∷ commands) (reply ∷ replies) = IsServed sure command reply × PushesServed (sure_after sure command reply) commands replies

-- a capacity grows from old to new, and not if there was room for so many items
abbrev pub GrowsFor : ℕ → ℕ → ℕ → Type 0
GrowsFor needed old new = (old ≤ new) × (needed ≤ old → new ≡ old)

-- what a step that leads from n items to m items makes of the capacity: after any command that isn't named here it is what it was
abbrev pub KeepsCapacity : {T P : Type 0} → ℕ → ℕ → Command T P → Reply T → ℕ → ℕ → Type 0
KeepsCapacity n old (Push x) Pushed m new = GrowsFor m old new
KeepsCapacity n old (Extend xs) reply m new = GrowsFor m old new
KeepsCapacity n old (Reserve k) Done m new = GrowsFor (n + k) old new
-- (if the items of the command's heap are more, its vector is the heap's from then on)
KeepsCapacity n old (Append other) Done m new = length other ≤ n → old ≤ new
KeepsCapacity n old (Shrink k) Done m new = new ≡ min old (max n k)
KeepsCapacity n old (Shrink k) Refused m new = new ≤ old
KeepsCapacity n old (Drain k) (Taken taken) m new = new ≡ 0
KeepsCapacity n old command reply m new = new ≡ old

-- what a reply tells of the capacity before it that says that memory allocation failed
abbrev pub IsFull : {T P : Type 0} → ℕ → ℕ → Command T P → Reply T → ℕ → Type 0
IsFull n old (Push x) (PushRefused y) m = n ≡ old
-- (m counts those that came in)
IsFull n old (Extend xs) ExtendRefused m = old ≤ m
-- (if the items of the command's heap are more, its vector is the one without room)
IsFull n old (Append other) (AppendRefused back) m = (0 < n) × (0 < length other) × (length other ≤ n → old < n + length other)
IsFull n old (Reserve k) Refused m = old < n + k
IsFull n old (Shrink k) Refused m = max n k < old
IsFull n old command reply m = Unit {0}

-- a run leads from this capacity to that, by such steps
abbrev pub CapacitySteps : {T P : Type 0} → List T → ℕ → List (Command T P) → List (Reply T) → List (List T) → ℕ → Type 0
CapacitySteps old capacity (command ∷ commands) (reply ∷ replies) (new ∷ later) last =
    (next : ℕ)
    × KeepsCapacity (length old) capacity command reply (length new) next
    × IsFull (length old) capacity command reply (length new)
    × CapacitySteps new next commands replies later last
CapacitySteps old capacity commands replies states last = last ≡ capacity

module _ {T P : Type 0} (cmp : T → T → Ordering) (calls : P → T → Bool → P → Type 0) (D : ℕ) where
  -- a heap gave these replies to these commands
  pub record Runs (old : Contents T) (commands : List (Command T P)) (replies : List (Reply T)) (new : Contents T) : Type 0 where
    -- the state after each step
    pub states : List (List T)
    -- the items at the start are a state, and from it the machine may give these replies and leave these states
    pub begins : IsState cmp old.items
    pub run : Steps cmp calls old.items commands replies states
    pub ends : last_state old.items states ≡ new.items
    -- it made no more comparisons than the charges of the steps, taken over the same states
    pub charged : RisesWithin old.comparisons new.comparisons (charges D old.items commands replies states)
    -- no push that there is room for fails
    pub served : PushesServed (room old) commands replies
    -- for as many as are sure afterwards there is room
    pub sure : sure_at_end (room old) commands replies ≤ room new
    -- the capacity changes only as each command may, and is used up where memory allocation fails
    pub capacity : CapacitySteps old.items old.capacity commands replies states new.capacity

  -- a heap gave this reply to this command
  pub record Serves (old : Contents T) (command : Command T P) (reply : Reply T) (new : Contents T) : Type 0 where
    pub step : Step cmp calls old.items command reply new.items
    pub charged : RisesWithin old.comparisons new.comparisons (charge D (length old.items) command reply (length new.items))
    pub served : IsServed (room old) command reply
    pub sure : sure_after (room old) command reply ≤ room new
    pub ordered : IsHeapOrdered cmp D new.items
    -- its items come from the heap and the command
    pub among : IsSubBag new.items (old.items ++ items_in (command ∷ []))
    pub kept : KeepsCapacity (length old.items) old.capacity command reply (length new.items) new.capacity
    pub full : IsFull (length old.items) old.capacity command reply (length new.items)

-- a heap gave this reply to this command, which holds no predicate
abbrev pub ServesPlain : {T : Type 0} → (T → T → Ordering) → ℕ → Contents T → Command T ⊥ → Reply T → Contents T → Type 0
ServesPlain cmp D old command reply new = Serves cmp (λ p x answer after. ⊥) D old command reply new
