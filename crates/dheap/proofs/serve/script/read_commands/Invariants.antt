use Rattle.dheap.proofs.Common.{◌≡◌, ◌+◌, ◌++◌, ℕ, List, length, CarryOut, Say, lines_left, lines_of, Line}
use Rattle.dary_heap.specs.Reading as read
use Rattle.dheap.proofs.serve.script.read_commands.Given as goal

-- the lines before this number are read, and the commands carry them out
abbrev pub invariant-loop-number : goal.invariant-loop-number
invariant-loop-number g l =
    goal.F-IsAlwaysCallable g l.at_least × ((before : List (List ℕ)) × (lines : List Line) × (lines_of l.script ≡ before ++ lines_left l.rest) × (l.number ≡ length before + 1)
    × Say before lines × CarryOut (λ n p. goal.F-post g l.at_least n p) (read.commands l.commands.items) lines)
