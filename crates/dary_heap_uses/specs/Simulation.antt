-- Events that are handled in the order of their moments, and what handles them changes further ones. An event is a timer.
use Rattle.std.specs.Prelude.{◌⊎◌, ℕ, ◌<◌, ◌≤◌, List, ◌∷◌, Option, length, take}
use Rattle.std.specs.List.{AllPairs, FoldsTo}
use Rattle.dary_heap.specs.Bag.{IsSameBag}
use Rattle.indexed_heap.specs.Entries.{Gets, Loses}
use Rattle.dary_heap_uses.specs.Timers.{IsFirst, Timers}
use Rattle.dary_heap_uses.specs.declared.simulation.Change.{Change}
use Rattle.dary_heap_uses.specs.declared.simulation.Change.TheVariants.{Schedule, Revoke}

-- an event that was handled, and the changes that its handler makes
pub record Step : Type 0 where
  pub event : ℕ × ℕ
  pub changes : List Change

-- a change that schedules nothing before the moment
abbrev pub IsNotBefore : ℕ → Change → Type 0
IsNotBefore now (Schedule name moment) = now ≤ moment
IsNotBefore now (Revoke name) = Unit {0}

-- the change took the events that wait from old to new
abbrev pub IsMade : List (ℕ × ℕ) → Change → List (ℕ × ℕ) → Type 0
IsMade old (Schedule name moment) new = (before : Option ℕ) × Gets name moment old before new
IsMade old (Revoke name) new = (before : Option ℕ) × Loses name old before new

-- a queue has no room for the change if these events wait
abbrev pub Lacks : Timers → Change → List (ℕ × ℕ) → Type 0
Lacks queue (Schedule name moment) waiting = (queue.room ≤ length waiting) ⊎ (queue.names ≤ name)
Lacks queue (Revoke name) waiting = ⊥

module _ {H : Type 0} (handles : H → ℕ × ℕ → List Change → H → Type 0) (end : ℕ) where
  -- the first event, which isn't past the end, was taken and handled, and these of its changes were made. old and new are the events that wait, and the handler
  pub record IsStep (made : List Change) (old : List (ℕ × ℕ) × H) (step : Step) (new : List (ℕ × ℕ) × H) : Type 0 where
    pub left : List (ℕ × ℕ)
    pub first : IsFirst old.0 step.event
    pub up_to_end : step.event.1 ≤ end
    pub taken : IsSameBag old.0 (step.event ∷ left)
    pub handled : handles old.1 step.event step.changes new.1
    pub changed : FoldsTo IsMade left made new.0

  -- these steps with all their changes led from old to new, and no moment is before an earlier step's
  pub record IsRun (old : List (ℕ × ℕ) × H) (steps : List Step) (new : List (ℕ × ℕ) × H) : Type 0 where
    pub each : FoldsTo (λ before step after. IsStep step.changes before step after) old steps new
    pub forward : AllPairs (λ a b. a.event.1 ≤ b.event.1) steps

  -- steps as the budget allows, and then one of whose changes only so many were made
  pub record IsStopped (budget : ℕ) (old : List (ℕ × ℕ) × H) (changes : List Change) (made : ℕ) (new : List (ℕ × ℕ) × H) : Type 0 where
    pub steps : List Step
    pub mid : List (ℕ × ℕ) × H
    pub event : ℕ × ℕ
    pub allowed : length steps < budget
    pub run : IsRun old steps mid
    pub last : IsStep (take made changes) mid (record { event = event; changes = changes }) new
    pub missing : made < length changes
