-- Entries that get another key.
use Rattle.std.specs.Prelude.{ℕ, if◌then◌else◌, ◌==◌}

-- an entry of one key, with the other key; and any other entry as it is
abbrev pub rekeyed : {T : Type 0} → ℕ → ℕ → ℕ × T → ℕ × T
rekeyed key to entry = if entry.0 == key then (to, entry.1) else entry
