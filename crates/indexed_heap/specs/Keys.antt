-- How much room the keys need.
use Rattle.std.specs.Prelude.{ℕ, ◌+◌, List, [], ◌∷◌, max}

-- the least number that is above each key, which is 0 if there is none
abbrev pub key_bound : {T : Type 0} → List (ℕ × T) → ℕ
key_bound [] = 0
key_bound (entry ∷ entries) = max (entry.0 + 1) (key_bound entries)
