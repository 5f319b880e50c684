-- Bounds on comparisons. They speak of numbers alone. D is the const parameter.
use Rattle.std.specs.Prelude.{ℕ, zero, suc, ◌+◌, ◌-◌, ◌*◌, ◌/◌, ◌≤◌, max, min, nat_lt, if◌then◌else◌, ◌==◌, List, [], ◌∷◌, length, Some}
use Rattle.dary_heap.specs.HeapOrder.{arity, depth}
use Rattle.dary_heap.specs.Machine.{Act, Command, Reply, Write, Refresh, Push, Pop, PopIf, Extend, Append, Retain, DrainSorted, Loan, Pushed, Popped, Done, Taken, Loaned}

-- a count that was old is new after at most so many comparisons
pub record RisesWithin (old new bound : ℕ) : Type 0 where
  pub rises : old ≤ new
  pub within : new ≤ old + bound

-- a push onto n items: the depth of the new place
abbrev pub push_bound : ℕ → ℕ → ℕ
push_bound D n = depth D n

-- sifting down the first of n items: the arity times the depth of the last place
abbrev pub sink_bound : ℕ → ℕ → ℕ
sink_bound D n = arity D * depth D (n - 1)

-- a pop from n items: the arity times the depth of the last place that remains, and 0 if none remains
abbrev pub pop_bound : ℕ → ℕ → ℕ
pop_bound D n = arity D * depth D (n - 2)

-- a build of n items: 0 below two items
abbrev pub build_bound : ℕ → ℕ → ℕ
build_bound D n = if nat_lt D 2 then n * (n - 1) / 2 else 2 * (n - 1)

-- taking in the last k of n items
abbrev pub mend_bound : ℕ → ℕ → ℕ → ℕ
mend_bound D n k = if k == 0 then 0 else max (build_bound D n) (k * depth D (n - 1))

-- fixing the item at a place of n items: as a push to that place, and as sifting down from there to the last depth
abbrev pub fix_bound : ℕ → ℕ → ℕ → ℕ
fix_bound D n place = depth D place + arity D * (depth D (n - 1) - depth D place)

-- a search for a walk that examines so many edges: a push and a pop of the start and of one state for each edge
abbrev pub search_bound : ℕ → ℕ → ℕ
search_bound D edges = (edges + 1) * (push_bound D edges + pop_bound D (edges + 1))

-- the candidates for the next item in order, once k were given: the first place at the start, and for each place that was given its children
abbrev pub candidates_bound : ℕ → ℕ → ℕ
candidates_bound D k = 1 + (arity D - 1) * k

-- the next item in order after k others: a pop from that many candidates in a heap of arity 4, and a push for each child
abbrev pub next_bound : ℕ → ℕ → ℕ
next_bound D k = pop_bound 4 (candidates_bound D k) + arity D * push_bound 4 ((arity D - 1) * (k + 1))

-- popping n items until none is left
abbrev pub pops_bound : ℕ → ℕ → ℕ
pops_bound D zero = 0
pops_bound D (suc n) = pop_bound D (suc n) + pops_bound D n

abbrev pub refreshes : {T : Type 0} → List (Act T) → ℕ
refreshes [] = 0
refreshes (Write x ∷ acts) = refreshes acts
refreshes (Refresh ∷ acts) = 1 + refreshes acts

-- what a step may cost that leads from n items to m items
abbrev pub charge : {T P : Type 0} → ℕ → ℕ → Command T P → Reply T → ℕ → ℕ
charge D n (Push x) Pushed m = push_bound D n
charge D n Pop (Popped (Some x)) m = pop_bound D n
charge D n (PopIf p) (Popped (Some x)) m = pop_bound D n
charge D n (Extend xs) reply m = mend_bound D m (m - n)
charge D n (Append other) Done m = mend_bound D m (min n (m - n))
charge D n (Retain p) reply m = mend_bound D m m
charge D n (DrainSorted k) (Taken taken) m = pops_bound D n
charge D n (Loan acts end) (Loaned told) m = (refreshes acts + 1) * sink_bound D n
charge D n command reply m = 0

-- the sum of the charges of a run's steps, from the state old on, if these are the states that they leave
abbrev pub charges : {T P : Type 0} → ℕ → List T → List (Command T P) → List (Reply T) → List (List T) → ℕ
charges D old (command ∷ commands) (reply ∷ replies) (new ∷ later) = charge D (length old) command reply (length new) + charges D new commands replies later
charges D old commands replies states = 0
