-- What the words of the command line and of a script say.
use Rattle.std.specs.Prelude.{◌≡◌, ◌+◌, ◌^◌, ◌<◌, ◌≤◌, ℕ, List, [], ◌∷◌, FitsSigned}
use Rattle.std.specs.Int.{w64}
use Rattle.std.specs.Str.Parse.{IsNumeral, without_leading_plus, without_leading_sign, digits_value, signed_digits_value}

-- the arguments are one digit, which names this arity
abbrev pub IsArity : List (List ℕ) → ℕ → Type 0
IsArity words arity = (words ≡ ((48 + arity) ∷ []) ∷ []) × (1 ≤ arity) × (arity ≤ 8)

-- the word is a number in range: decimal digits, at least one, after a sign or none
abbrev pub IsNumber : List ℕ → Type 0
IsNumber word = IsNumeral 10 (without_leading_sign word) × FitsSigned w64 (signed_digits_value 10 word)

-- the word is a count in range: the same, but after a plus or none
abbrev pub IsCount : List ℕ → Type 0
IsCount word = IsNumeral 10 (without_leading_plus word) × (digits_value 10 (without_leading_plus word) < 2 ^ 64)
