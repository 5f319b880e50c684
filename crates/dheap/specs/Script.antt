-- What the lines of a script say.
use Rattle.std.specs.Prelude.{◌≡◌, ◌==◌, ◌||◌, ◌++◌, ◌+◌, not, ℕ, ℤ, Bool, List, [], ◌∷◌, length, filter, codes, Option, None, Some}
use Rattle.std.specs.List.{slice_split}
use Rattle.std.specs.Str.Parse.{digits_value, signed_digits_value, without_leading_plus}
use denote.Ref.{Bor}
use Rattle.dary_heap.specs.Machine.{Command}
use Rattle.dary_heap.specs.Machine as machine
use Rattle.dheap.specs.Words.{IsNumber, IsCount}
use Rattle.dheap.specs.declared.serve.script.line.Line.{Line}
use Rattle.dheap.specs.declared.serve.script.line.Line.TheVariants.{Blank, Push, Pop, Len, Test, PopIf, Keep, Sorted}

-- the lines, separated by line feeds
abbrev pub lines_of : List ℕ → List (List ℕ)
lines_of script = slice_split (λ b. b == 10) script

-- those that are left to read
abbrev pub lines_left : Option (Bor (List ℕ)) → List (List ℕ)
lines_left None = []
lines_left (Some rest) = lines_of rest.now

-- a space, a tab or a carriage return
abbrev pub is_blank : ℕ → Bool
is_blank b = (b == 32) || (b == 9) || (b == 13)

-- the words of a line, separated by any number of blanks
abbrev pub words_of : List ℕ → List (List ℕ)
words_of line = filter (λ word. not (length word == 0)) (slice_split is_blank line)

-- the words are this name and this number
abbrev pub IsWithNumber : List (List ℕ) → List ℕ → ℤ → Type 0
IsWithNumber words name n = (word : List ℕ) × (words ≡ name ∷ word ∷ []) × IsNumber word × (n ≡ signed_digits_value 10 word)

-- the words are this name and this count
abbrev pub IsWithCount : List (List ℕ) → List ℕ → ℕ → Type 0
IsWithCount words name n = (word : List ℕ) × (words ≡ name ∷ word ∷ []) × IsCount word × (n ≡ digits_value 10 (without_leading_plus word))

-- the words of a good line say this
abbrev pub Says : List (List ℕ) → Line → Type 0
Says words Blank = words ≡ []
Says words (Push n) = IsWithNumber words (codes "push") n
Says words Pop = words ≡ codes "pop" ∷ []
Says words Len = words ≡ codes "len" ∷ []
Says words (Test n) = IsWithNumber words (codes "test") n
Says words (PopIf n) = IsWithNumber words (codes "popif") n
Says words (Keep n) = IsWithNumber words (codes "keep") n
Says words (Sorted n) = IsWithCount words (codes "sorted") n

-- the first line of the script is this good line, and the rest comes after its line feed
abbrev pub IsFirstLine : List ℕ → Line → List ℕ → Type 0
IsFirstLine script line rest = (text : List ℕ) × (lines_of script ≡ text ∷ lines_of rest) × Says (words_of text) line

-- each of these lines says this
abbrev pub Say : List (List ℕ) → List Line → Type 0
Say [] [] = Unit {0}
Say (text ∷ texts) (line ∷ lines) = Says (words_of text) line × Say texts lines
Say texts lines = ⊥

-- the line of this number, counted from 1, is the first that says nothing
abbrev pub IsFirstBad : List (List ℕ) → ℕ → Type 0
IsFirstBad texts number = (before : List (List ℕ)) × (bad : List ℕ) × (after : List (List ℕ)) × (texts ≡ before ++ bad ∷ after) × (number ≡ length before + 1)
    × ((lines : List Line) × Say before lines) × ((line : Line) → ¬ (Says (words_of bad) line))

-- `means n p`: the predicate p returns whether a number is at least n
module _ {P : Type 0} (means : ℤ → P → Type 0) where
  -- these commands carry out a line: one, or none if it is blank
  abbrev pub CarryOutLine : List (Command ℤ P) → Line → Type 0
  CarryOutLine commands Blank = commands ≡ []
  CarryOutLine commands (Push n) = commands ≡ machine.Push n ∷ []
  CarryOutLine commands Pop = commands ≡ machine.Pop ∷ []
  CarryOutLine commands Len = commands ≡ machine.Len ∷ []
  CarryOutLine commands (Test n) = (p : P) × means n p × (commands ≡ machine.Ask p ∷ [])
  CarryOutLine commands (PopIf n) = (p : P) × means n p × (commands ≡ machine.PopIf p ∷ [])
  CarryOutLine commands (Keep n) = (p : P) × means n p × (commands ≡ machine.Retain p ∷ [])
  CarryOutLine commands (Sorted n) = commands ≡ machine.DrainSorted n ∷ []

  -- these commands carry out the lines, one after another
  abbrev pub CarryOut : List (Command ℤ P) → List Line → Type 0
  CarryOut commands [] = commands ≡ []
  CarryOut commands (line ∷ lines) = (first : List (Command ℤ P)) × (later : List (Command ℤ P)) × (commands ≡ first ++ later) × CarryOutLine first line × CarryOut later lines
