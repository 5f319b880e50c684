-- How the digits of a number are written, from the last to the first.
use Rattle.dheap.proofs.Common.{◌≡◌, ◌+◌, ◌-◌, ◌/◌, ◌%◌, ◌^◌, ◌<◌, ◌≤◌, ℕ, ℤ, zero, suc, List, [], ◌∷◌, ◌++◌, codes, flat_map, length, drop, set, refl, sym, ap, ◌∙◌, append_assoc, append-nil}
use Rattle.dheap.proofs.Common.{Result, Ok, Err, OnOk, arith, decimal, signed_decimal, listing}
use Rattle.std.proofs.lemmas.Fmt.{decimal_digit, decimal_step}
use Rattle.std.proofs.lemmas.Grind.{drop-set_at}

pub put_before : (line : List ℕ) (i b x : ℕ) → i + 1 ≡ b → b ≤ length line → drop i (set line i x) ≡ x ∷ drop b line
put_before line i b x next inside = drop-set_at line i i x refl (omega (arith, next, inside)) ∙ ap (λ k. x ∷ drop k line) next

module _ (n x : ℕ) (rest : List ℕ) where
  pub more_digits : 10 ≤ n → n < 2 ^ 64 → x ≡ 48 + n % 10 → decimal (n / 10) ++ x ∷ rest ≡ decimal n ++ rest
  more_digits large fits e =
      ap (λ y. decimal (n / 10) ++ y ∷ rest) e
      ∙ sym (append_assoc (decimal (n / 10)) ((48 + n % 10) ∷ []) rest) ∙ ap (λ t. t ++ rest) (sym (decimal_step n large fits))

  pub one_digit : n < 10 → x ≡ 48 + n → x ∷ rest ≡ decimal n ++ rest
  one_digit small e = ap (λ y. y ∷ rest) e ∙ ap (λ t. t ++ rest) (sym (decimal_digit n small))

-- a number of two digits or more has one more than its tenth
pub one_place_fewer : (k b n : ℕ) → 10 ≤ n → b ≡ k + 2 → n < 10 ^ suc k → (less : ℕ) × (b - 1 ≡ less + 2) × (n / 10 < 10 ^ suc less)
one_place_fewer zero b n large place fits = absurd (omega (arith, large, fits))
one_place_fewer (suc k) b n large place fits = (k, omega (arith, place), omega (arith, fits))

-- a listing, each number but the last with the space after it
spaced : (xs : List ℤ) (y : ℤ) → flat_map (λ x. codes " " ++ signed_decimal x) (xs ++ y ∷ []) ≡ 32 ∷ listing (xs ++ y ∷ [])
spaced [] y = refl
spaced (x ∷ xs) y = refl

listing_to_last : (xs : List ℤ) (y : ℤ) → listing (xs ++ y ∷ []) ≡ flat_map (λ x. signed_decimal x ++ codes " ") xs ++ signed_decimal y
listing_to_last [] y = append-nil (signed_decimal y)
listing_to_last (x ∷ xs) y =
    let before = flat_map (λ z. signed_decimal z ++ codes " ") xs in
    ap (λ l. signed_decimal x ++ l) (spaced xs y ∙ ap (λ l. 32 ∷ l) (listing_to_last xs y))
    ∙ sym (append_assoc (signed_decimal x) (codes " ") (before ++ signed_decimal y)) ∙ sym (append_assoc (signed_decimal x ++ codes " ") before (signed_decimal y))

-- what is buffered of a listing, in the end
pub listing_buffered : {E : Type 0} (result : Result (Unit {0}) E) (items others : List ℤ) (last : ℤ) (old buffer new : List ℕ) → items ≡ others ++ last ∷ [] →
    buffer ≡ old ++ flat_map (λ x. signed_decimal x ++ codes " ") others
    → OnOk result (new ≡ buffer ++ (signed_decimal last ++ codes "\n")) → OnOk result (new ≡ old ++ (listing items ++ codes "\n"))
listing_buffered (Err e) items others last old buffer new whole before end = tt
listing_buffered (Ok u) items others last old buffer new whole before end =
    let numbers = flat_map (λ x. signed_decimal x ++ codes " ") others in
    end ∙ ap (λ h. h ++ (signed_decimal last ++ codes "\n")) before ∙ append_assoc old numbers (signed_decimal last ++ codes "\n")
    ∙ ap (λ t. old ++ t) (sym (append_assoc numbers (signed_decimal last) (codes "\n")) ∙ ap (λ t. t ++ codes "\n") (sym (listing_to_last others last) ∙ sym (ap listing whole)))
