-- Moves of an item along the path from a place to the first. D is the const parameter.
use Rattle.std.specs.Prelude.{◌≡◌, ℕ, zero, suc, ◌-◌, ◌<◌, ◌⊎◌, List, length, take}
use Rattle.std.specs.List.{swap}
use Rattle.dary_heap.specs.HeapOrder.{parent}

-- the place that is n levels above a place
abbrev pub above : ℕ → ℕ → ℕ → ℕ
above D zero at = at
above D (suc n) at = above D n (parent D at)

-- place `high` is place `low`, or above it
pub record IsAbove (D high low : ℕ) : Type 0 where
  pub levels : ℕ
  pub there : above D levels low ≡ high

-- the item at place `from` goes up n levels to place `to`: at each it changes places with its parent's item
abbrev pub GoesUpBy : {T : Type 0} → ℕ → ℕ → ℕ → ℕ → List T → List T → Type 0
GoesUpBy D zero from to old new = (from ≡ to) × (new ≡ old)
GoesUpBy D (suc n) from to old new = (0 < from) × GoesUpBy D n (parent D from) to (swap old from (parent D from)) new

-- the item at place `from` goes up to place `to`: each item on the way there goes down a level, and the others stay
pub record GoesUp {T : Type 0} (D from to : ℕ) (old new : List T) : Type 0 where
  pub levels : ℕ
  pub way : GoesUpBy D levels from to old new

-- it goes up, or goes down as if what went up came back
abbrev pub GoesTo : {T : Type 0} → ℕ → ℕ → ℕ → List T → List T → Type 0
GoesTo D from to old new = GoesUp D from to old new ⊎ GoesUp D to from new old

-- place i is on the path from place `low` up to place `high`
pub record IsOnPath (D low high i : ℕ) : Type 0 where
  pub above_low : IsAbove D i low
  pub below_high : IsAbove D high i

-- the item at a place changes places with the last one, which goes from there to place `to`: each item on the way moves a level, and the others stay
abbrev pub GivesPlace : {T : Type 0} → ℕ → ℕ → ℕ → List T → List T → Type 0
GivesPlace D place to old new = GoesTo D place to (take (length old - 1) (swap old place (length old - 1))) (take (length new - 1) new)
