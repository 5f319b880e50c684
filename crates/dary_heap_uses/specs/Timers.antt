-- Timers that are set for a moment, and taken once it has come. A timer is a pair: its name, and its moment.
use Rattle.std.specs.Prelude.{◌≡◌, ◌⊎◌, ℕ, ◌<◌, ◌≤◌, min, List, ◌++◌, length, All, Contains}
use Rattle.std.specs.List.{AllPairs}
use Rattle.dary_heap.specs.Bag.{IsSameBag}

-- what a caller sees of a queue: the bag of the timers that are set, how many there is room for, below which number names need no room, and how many comparisons were made so far
pub record Timers : Type 0 where
  pub set : List (ℕ × ℕ)
  pub room : ℕ
  pub names : ℕ
  pub comparisons : ℕ

-- the timer of an entry, which has the moment and then the name once more
abbrev pub named : ℕ × (ℕ × ℕ) → ℕ × ℕ
named entry = (entry.0, entry.1.0)

-- a is due before b: for an earlier moment, or for the same, and its name is at most that of b
abbrev pub IsBefore : ℕ × ℕ → ℕ × ℕ → Type 0
IsBefore a b = (a.1 < b.1) ⊎ ((a.1 ≡ b.1) × (a.0 ≤ b.0))

-- the timer is set, and none is due before it
pub record IsFirst (set : List (ℕ × ℕ)) (timer : ℕ × ℕ) : Type 0 where
  pub is_set : Contains set timer
  pub before : All (IsBefore timer) set

-- of the timers that were set, those that were due were taken, in this order, and these are left
pub record TakesDue (now : ℕ) (set taken left : List (ℕ × ℕ)) : Type 0 where
  pub none_lost : IsSameBag set (taken ++ left)
  pub in_order : AllPairs IsBefore taken
  pub none_early : All (λ timer. timer.1 ≤ now) taken
  pub all_due : All (λ timer. now < timer.1) left

-- those that were taken stand behind what stood in the list before
pub record AddsDue (now : ℕ) (set left before after : List (ℕ × ℕ)) : Type 0 where
  pub taken : List (ℕ × ℕ)
  pub added : after ≡ before ++ taken
  pub takes : TakesDue now set taken left

-- of the timers that are set, those that come next, in this order: as many as are asked for, or all, and none of the others is due before one of them
pub record ComeNext (most : ℕ) (set coming : List (ℕ × ℕ)) : Type 0 where
  pub others : List (ℕ × ℕ)
  pub none_lost : IsSameBag set (coming ++ others)
  pub in_order : AllPairs IsBefore coming
  pub none_before : All (λ timer. All (IsBefore timer) others) coming
  pub count : length coming ≡ min most (length set)
