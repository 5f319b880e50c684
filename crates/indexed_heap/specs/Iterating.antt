-- What the iterators of an indexed heap give.
use Rattle.std.specs.Prelude.{ℕ}
use denote.Ref.{Bor}
use Rattle.std.specs.Iterator.{YieldsFirstBy, YieldsLastBy}
use Rattle.std.specs.Iterator.Runs.{EveryRun, ItemsMapTo, ItemsMapToReversed}
use Rattle.dary_heap.specs.Contents.{Contents}
use Rattle.indexed_heap.specs.Entries.{Indexed}

-- the entry that an item of `iter` shows
abbrev pub shown : {T : Type 0} → ℕ × Bor T → ℕ × T
shown entry = (entry.0, entry.1.now)

-- each run of `next` shows what was left, in order
abbrev pub ShowsInOrder : Type 0 → Type 0
ShowsInOrder T = EveryRun (YieldsFirstBy (shown {T = T}) (λ rest. rest)) (λ p. ItemsMapTo p shown p.from)

-- and each run of `next_back` in reverse
abbrev pub ShowsInReverse : Type 0 → Type 0
ShowsInReverse T = EveryRun (YieldsLastBy (shown {T = T}) (λ rest. rest)) (λ p. ItemsMapToReversed p shown p.from)

-- the entries as a heap of pairs
abbrev pub contents : {T : Type 0} → Indexed T → Contents (ℕ × T)
contents heap = record { items = heap.entries; capacity = heap.capacity; comparisons = heap.comparisons }
