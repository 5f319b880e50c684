-- What an iterator says of its size.
use Rattle.std.specs.Prelude.{◌≡◌, ℕ, List, length, Option, Some, IfSome}
use Rattle.std.specs.Iterator.{UpTo, at_most}
use Rattle.std.specs.Iterator.SizeHint.{IsWithinCount}

-- both bounds of the hint are this number
pub record HintsNumber (n : ℕ) (hint : ℕ × Option ℕ) : Type 0 where
  pub lower : IsWithinCount hint.0 (at_most n)
  pub upper : IfSome hint.1 (UpTo (at_most n))
  pub exact : (hint.0 ≡ n) × (hint.1 ≡ Some n)

-- both bounds of the hint are the number of these items
abbrev pub HintsExactly : {T : Type 0} → List T → ℕ × Option ℕ → Type 0
HintsExactly items = HintsNumber (length items)
