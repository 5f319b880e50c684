-- Which places of a slice hold their items.
use Rattle.std.specs.Prelude.{ℕ, true, false, Bool, List, replicate, slice_set}

-- each of n places
abbrev pub all_filled : ℕ → List Bool
all_filled n = replicate n true

-- each of n places but one
abbrev pub filled_but : ℕ → ℕ → List Bool
filled_but n at = slice_set (replicate n true) at false
