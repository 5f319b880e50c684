-- What entries show as text.
use Rattle.std.specs.Prelude.{ℕ, List, Option, Some}
use Rattle.std.specs.Fmt.{◌++?◌, comma_space, decimal}
use lib.Chars.{codes}

-- a pair of the key and the item, if it is known what the item shows
abbrev pub debug_entry : {T : Type 0} → (T → Option (List ℕ)) → ℕ × T → Option (List ℕ)
debug_entry text entry = Some (codes "(") ++? Some (decimal entry.0) ++? Some comma_space ++? text entry.1 ++? Some (codes ")")
