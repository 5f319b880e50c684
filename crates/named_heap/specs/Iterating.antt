-- What the iterators of a named heap give.
use denote.Ref.{Bor}
use Rattle.std.specs.Iterator.{YieldsFirstBy, YieldsLastBy}
use Rattle.std.specs.Iterator.Runs.{EveryRun, ItemsMapTo, ItemsMapToReversed}
use Rattle.std.specs.Prelude.{◌≡◌, ℕ, ◌≤◌, Option, IfNone}
use Rattle.std.specs.declared.cmp.Ordering.{Ordering}
use Rattle.dary_heap.specs.Contents.{Contents}
use Rattle.dary_heap.specs.Popping.{IsPop}
use Rattle.named_heap.specs.Entries.{Named, by_item}

-- the entry that an item of `iter` shows
abbrev pub shown : {K T : Type 0} → Bor K × Bor T → K × T
shown entry = (entry.0.now, entry.1.now)

-- each run of `next` shows what was left, in order
abbrev pub ShowsInOrder : Type 0 → Type 0 → Type 0
ShowsInOrder K T = EveryRun (YieldsFirstBy (shown {K = K} {T = T}) (λ rest. rest)) (λ p. ItemsMapTo p shown p.from)

-- and each run of `next_back` in reverse
abbrev pub ShowsInReverse : Type 0 → Type 0 → Type 0
ShowsInReverse K T = EveryRun (YieldsLastBy (shown {K = K} {T = T}) (λ rest. rest)) (λ p. ItemsMapToReversed p shown p.from)

-- the entries as a heap of pairs, whose capacity isn't seen
abbrev pub contents : {K T : Type 0} → Named K T → Contents (K × T)
contents heap = record { items = heap.entries; capacity = 0; comparisons = heap.comparisons }

-- a call of `next` of an `IntoIterSorted` was a pop: it took old to new and gave this entry, if there was one, and no room was lost
pub record PopsNext {K T : Type 0} (cmp : T → T → Ordering) (D : ℕ) (old : Named K T) (popped : Option (K × T)) (new : Named K T) : Type 0 where
  pub pop : IsPop (by_item cmp) D (contents old) popped (contents new)
  pub room : old.room ≤ new.room
  pub unchanged : IfNone popped (new ≡ old)
