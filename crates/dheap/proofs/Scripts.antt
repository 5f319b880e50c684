-- How a script is read, line by line.
use Rattle.dheap.proofs.Common.{◌≡◌, ◌+◌, ◌<◌, ◌≤◌, ℕ, ℤ, suc, zero, Bool, true, false, List, [], ◌∷◌, ◌++◌, length, take, drop, Option, None, Some, IfSome, refl, sym, ap, ◌∙◌, append_assoc}
use Rattle.dheap.proofs.Common.{append-nil, arith, slice_split, onto_first, AllWithin, HoldsAt, slice_split-cons_yes, slice_split-cons_no, length-slice_split, slice_split_none, All-from_all_within}
use Rattle.dheap.proofs.Common.{Command, Say, CarryOut, CarryOutLine, IsFirstBad, lines_of, Fault, Line}
use Rattle.std.proofs.lemmas.List.Sums.{count_by-le-length}
use Rattle.dheap.specs.Faults.{TellsFirstBad}

module _ {X : Type 0} (p : X → Bool) where
  -- where the first element that passes stands
  pub cut : (xs : List X) (i : ℕ) → i < length xs → AllWithin (λ x. p x ≡ false) xs 0 i → HoldsAt (λ x. p x ≡ true) xs i → slice_split p xs ≡ take i xs ∷ slice_split p (drop (suc i) xs)
  cut [] i inside before at = absurd (omega (arith, inside))
  cut (x ∷ xs) zero inside before at = slice_split-cons_yes p x xs (at x)
  cut (x ∷ xs) (suc i) inside before at =
      let later = cut xs i (omega (arith, inside)) (λ k d low high. before (suc k) d (omega arith) (omega (arith, high))) (λ d. at d) in
      slice_split-cons_no p x xs (before 0 x (omega arith) (omega arith)) ∙ ap (onto_first x) later

  pub uncut : (xs : List X) → AllWithin (λ x. p x ≡ false) xs 0 (length xs) → slice_split p xs ≡ xs ∷ []
  uncut xs before = slice_split_none p xs (All-from_all_within (λ x. p x ≡ false) xs before)

pub Say-append : (xs ys : List (List ℕ)) (ls ms : List Line) → Say xs ls → Say ys ms → Say (xs ++ ys) (ls ++ ms)
Say-append [] ys [] ms h k = k
Say-append (x ∷ xs) ys (l ∷ ls) ms h k = (h.0, Say-append xs ys ls ms h.1 k)
Say-append xs ys ls ms h k = absurd h

module _ {P : Type 0} (means : ℤ → P → Type 0) where
  pub CarryOut-more : (commands more all : List (Command ℤ P)) (lines : List Line) (line : Line) → CarryOut means commands lines → CarryOutLine means more line → all ≡ commands ++ more →
      CarryOut means all (lines ++ line ∷ [])
  CarryOut-more commands more all [] line h k e = (more, [], e ∙ ap (λ c. c ++ more) h ∙ sym (append-nil more), k, refl)
  CarryOut-more commands more all (l ∷ ls) line (first, later, split, is, rest) k e =
      (first, later ++ more, e ∙ ap (λ c. c ++ more) split ∙ append_assoc first later more, is, CarryOut-more later more (later ++ more) ls line rest k refl)

-- a script has no more lines than bytes and one
pub few_lines : {X : Type 0} (p : X → Bool) (xs : List X) → length (slice_split p xs) ≤ length xs + 1
few_lines p xs = omega (arith, length-slice_split p xs, count_by-le-length p xs)

-- that some line is the first bad one, without its fault
pub first_bad : (fault : Fault) (known : Option (List ℕ)) → IfSome known (λ script. TellsFirstBad script fault) → IfSome known (λ script. (number : ℕ) × IsFirstBad (lines_of script) number)
first_bad fault None h = tt
first_bad fault (Some script) h = (h.0, h.2)
