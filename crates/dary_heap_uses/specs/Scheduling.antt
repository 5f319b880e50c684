-- What a caller sees of a scheduler, and which of the jobs that wait comes first.
use Rattle.std.specs.Prelude.{◌≡◌, ◌⊎◌, ℕ, ◌<◌, nat_eq, List, ◌∷◌, All}
use Rattle.std.specs.List.{IsDistinct}
use Rattle.dary_heap.specs.Bag.{IsSameBag}
use Rattle.dary_heap_uses.specs.declared.scheduler.Waiting.{Waiting}

-- the jobs that wait, with their ids, in no order, how many were submitted so far, how many there is room for, and below which number ids need no room
pub record Schedule (J : Type 0) : Type 0 where
  pub waiting : List (ℕ × Waiting J)
  pub came : ℕ
  pub room : ℕ
  pub ids : ℕ

-- a job that waits at a priority, if so many came before it
abbrev pub submitted : {J : Type 0} → ℕ → ℕ → J → Waiting J
submitted priority turn job = record { priority = priority; turn = record { 0 = turn }; job = job }

-- the turn of a job that waits
abbrev pub turn_of : {J : Type 0} → ℕ × Waiting J → ℕ
turn_of entry = entry.1.turn.0

-- no two of these turns are the same, and each is below this number
pub record IsNumbered (turns : List ℕ) (came : ℕ) : Type 0 where
  pub distinct : IsDistinct nat_eq turns
  pub below : All (λ turn. turn < came) turns

-- a comes before b: its priority is the greater, or the same and it came earlier
abbrev pub ComesBefore : {J : Type 0} → Waiting J → Waiting J → Type 0
ComesBefore a b = (b.priority < a.priority) ⊎ ((a.priority ≡ b.priority) × (a.turn.0 < b.turn.0))

-- the job of this id has this priority now, and the turn that it had; the other jobs stay
pub record HasMoved {J : Type 0} (id priority : ℕ) (old new : List (ℕ × Waiting J)) : Type 0 where
  pub was : Waiting J
  pub others : List (ℕ × Waiting J)
  pub before : IsSameBag old ((id, was) ∷ others)
  pub after : IsSameBag ((id, submitted priority was.turn.0 was.job) ∷ others) new
