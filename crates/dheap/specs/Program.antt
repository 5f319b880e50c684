-- What a run of the program prints, and what it tells if it fails.
use Rattle.std.specs.Prelude.{◌≡◌, ◌≢◌, ◌<◌, ℕ, ℤ, int_le, Bool, true, List, [], Option, All, is_some}
use Rattle.std.specs.Io.KnownBytes.{Appends, Keeps}
use Rattle.std.specs.Ordering.{int_cmp}
use Rattle.dary_heap.specs.Machine.{Command, Reply, Steps}
use Rattle.dheap.specs.Answers.{answer, text}
use Rattle.dheap.specs.Faults.{TellsFirstBad, status_of}
use Rattle.dheap.specs.Script.{Say, CarryOut, lines_of}
use Rattle.dheap.specs.declared.serve.fault.Fault.{Fault}
use Rattle.dheap.specs.declared.serve.script.line.Line.{Line}

-- called on x, the bound n returns whether x is at least n, and stays as it is
abbrev pub AsksAtLeast : ℤ → ℤ → Bool → ℤ → Type 0
AsksAtLeast n x answer after = (answer ≡ int_le n x) × (after ≡ n)

-- this may be printed for a script: the answers to the replies that the bag machine, from the empty bag, may give to the commands of its lines, if each reply has one
abbrev pub MayPrint : List ℕ → List ℕ → Type 0
MayPrint script printed = (lines : List Line) × (commands : List (Command ℤ ℤ)) × (replies : List (Reply ℤ)) × (states : List (List ℤ))
    × Say (lines_of script) lines × CarryOut (λ n bound. bound ≡ n) commands lines × Steps int_cmp AsksAtLeast [] commands replies states
    × All (λ reply. is_some (answer reply) ≡ true) replies × (printed ≡ text replies)

-- an output whose bytes are known to be these before and after has got what may be printed for the script
abbrev pub Prints : List ℕ → Option (List ℕ) → Option (List ℕ) → Type 0
Prints script before after = (printed : List ℕ) × MayPrint script printed × Appends before after printed

-- a run whose arguments name an arity ends with this fault, on an output whose bytes are known to be these before and after
pub record Fails (script : List ℕ) (before after : Option (List ℕ)) (fault : Fault) : Type 0 where
  pub named : status_of fault ≢ 2
  pub bad : status_of fault ≡ 1 → TellsFirstBad script fault
  pub silent : status_of fault < 3 → Keeps before after
