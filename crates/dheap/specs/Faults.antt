-- What a fault says.
use Rattle.std.specs.Prelude.{◌≡◌, ◌++◌, ℕ, List, None, codes, decimal}
use Rattle.std.specs.IoError.{error_kind, raw_os_error}
use Rattle.std.specs.declared.io.Error.{Error}
use Rattle.std.specs.declared.io.ErrorKind.TheVariants.{OutOfMemory}
use Rattle.dheap.specs.Script.{IsFirstBad, lines_of}
use Rattle.dheap.specs.declared.serve.fault.Fault.{Fault}
use Rattle.dheap.specs.declared.serve.fault.Fault.TheVariants.{Usage, BadLine, NoMemory, InputOutput}

-- the status that the program ends with
abbrev pub status_of : Fault → ℕ
status_of (BadLine n) = 1
status_of Usage = 2
status_of NoMemory = 3
status_of InputOutput = 4

-- the line that tells of it, without its line feed
abbrev pub message : Fault → List ℕ
message (BadLine n) = codes "line " ++ decimal n ++ codes ": bad command"
message Usage = codes "usage: dheap ARITY (1 to 8)"
message NoMemory = codes "no memory"
message InputOutput = codes "input or output failed"

-- memory allocation failed in the program: the system, which has a number for each of its errors, told nothing
abbrev pub IsOfMemory : Error → Type 0
IsOfMemory error = (error_kind error ≡ OutOfMemory) × (raw_os_error error ≡ None)

-- it tells the number of the script's first bad line
abbrev pub TellsFirstBad : List ℕ → Fault → Type 0
TellsFirstBad script fault = (number : ℕ) × (fault ≡ BadLine number) × IsFirstBad (lines_of script) number
