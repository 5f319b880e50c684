-- How a line is read that is written plainly.
use Rattle.dheap.proofs.Common.{◌≡◌, ◌+◌, ◌<◌, ◌==◌, ◌||◌, ℕ, ℤ, pos, neg_ℤ, ◌-ℤ◌, FitsSigned, codes, Bool, true, false, cond, List, [], ◌∷◌, ◌++◌, All, length, take, drop, get_or, refl, sym, ap}
use Rattle.dheap.proofs.Common.{subst, ◌∙◌, arith, IsInRange, w64, slice_split, onto_first, filter, AllDigits, IsNumeral, digits_value, signed_digits_value, starts_with_minus, without_leading_plus}
use Rattle.dheap.proofs.Common.{without_leading_sign, ne_eqb, eqb-true, take-append-drop, All-cons, All-nil, slice_split_at, slice_split_none, digit_at, true≢false, IsFirstLine, is_blank, lines_of}
use Rattle.dheap.proofs.Common.{words_of}
use Rattle.std.proofs.Math.IntN.{+ℤ_idl}
use Rattle.std.proofs.lemmas.Str.{IsUtf8-from_ascii}
use Rattle.std.proofs.lemmas.Str.Ascii.{IsAscii-from_all}
use Rattle.std.specs.Str.{IsUtf8}
use Rattle.dheap.specs.Words.{IsCount, IsNumber}
use Rattle.dheap.specs.declared.serve.script.line.Line.TheVariants.{Push, Pop, Len, Test}
use Rattle.dheap.proofs.Parting.{word_kept}

-- what holds of signs and digits holds of each byte of a number and of a count
module _ (P : ℕ → Type 0) (plus : P 43) (minus : P 45) (digit : (c : ℕ) → IsInRange 48 57 c → P c) where
  in_digits : (ds : List ℕ) → AllDigits 10 ds → All P ds
  in_digits [] h = All-nil P
  in_digits (c ∷ cs) h = All-cons P c cs (digit c (digit_at (c ∷ cs) 0 h (omega arith))) (in_digits cs h.1)

  after_sign : (c : ℕ) (cs : List ℕ) (m q : Bool) → (m ≡ true → c ≡ 45) → (q ≡ true → c ≡ 43) → IsNumeral 10 (cond m cs (drop (cond q 1 0) (c ∷ cs))) → All P (c ∷ cs)
  after_sign c cs true q e f h = All-cons P c cs (subst P (sym (e refl)) minus) (in_digits cs h.1)
  after_sign c cs false true e f h = All-cons P c cs (subst P (sym (f refl)) plus) (in_digits cs h.1)
  after_sign c cs false false e f h = in_digits (c ∷ cs) h.1

  in_number : (word : List ℕ) → IsNumeral 10 (without_leading_sign word) → All P word
  in_number [] h = All-nil P
  in_number (c ∷ cs) h = after_sign c cs (c == 45) (c == 43) (eqb-true c 45) (eqb-true c 43) h

  in_count : (word : List ℕ) → IsNumeral 10 (without_leading_plus word) → All P word
  in_count [] h = All-nil P
  in_count (c ∷ cs) h = after_sign c cs false (c == 43) (λ e. absurd (true≢false (sym e))) (eqb-true c 43) h

-- so what isn't UTF-8 is neither a number nor a count
pub no_number : (word : List ℕ) → ¬ (IsUtf8 word) → ¬ (IsNumber word)
no_number word not is = not (IsUtf8-from_ascii word (IsAscii-from_all word (in_number (λ c. c < 128) (omega arith) (omega arith) (λ c range. omega (arith, range)) word is.0)))

pub no_count : (word : List ℕ) → ¬ (IsUtf8 word) → ¬ (IsCount word)
no_count word not is = not (IsUtf8-from_ascii word (IsAscii-from_all word (in_count (λ c. c < 128) (omega arith) (omega arith) (λ c range. omega (arith, range)) word is.0)))

digit_in_line : (c : ℕ) → IsInRange 48 57 c → (c == 10) ≡ false
digit_in_line c h = ne_eqb c 10 (λ e. omega (arith, h, e))

digit_in_word : (c : ℕ) → IsInRange 48 57 c → is_blank c ≡ false
digit_in_word c h =
    ap (λ b. b || (c == 9) || (c == 13)) (ne_eqb c 32 (λ e. omega (arith, h, e)))
    ∙ ap (λ b. b || (c == 13)) (ne_eqb c 9 (λ e. omega (arith, h, e))) ∙ ne_eqb c 13 (λ e. omega (arith, h, e))

-- a word that is a number, and the line feed after it
module _ (word rest : List ℕ) (is : IsNumber word) where
  pub number_line : lines_of (word ++ 10 ∷ rest) ≡ word ∷ lines_of rest
  number_line = slice_split_at (λ b. b == 10) word 10 rest (in_number (λ b. (b == 10) ≡ false) refl refl digit_in_line word is.0) refl

  pub number_word : slice_split is_blank word ≡ word ∷ []
  number_word = slice_split_none is_blank word (in_number (λ b. is_blank b ≡ false) refl refl digit_in_word word is.0)

  some : (w : List ℕ) → IsNumeral 10 (without_leading_sign w) → 0 < length w
  some [] h = absurd (omega (arith, h.0))
  some (c ∷ cs) h = omega arith

  pub only_word : words_of word ≡ word ∷ []
  only_word = ap (filter _) number_word ∙ word_kept word [] (some word is.0)

-- digits alone have no sign
pub unsigned : (ds : List ℕ) → IsNumeral 10 ds → (starts_with_minus ds ≡ false) × (without_leading_plus ds ≡ ds)
unsigned [] h = absurd (omega (arith, h.0))
unsigned (c ∷ cs) h =
    let range = digit_at (c ∷ cs) 0 h.1 (omega arith) in
    (ne_eqb c 45 (λ e. omega (arith, range, e)), ap (λ b. drop (cond b 1 0) (c ∷ cs)) (ne_eqb c 43 (λ e. omega (arith, range, e))))

-- after a space and a minus
pub minus_number : (script signed after word rest : List ℕ) (size : ℕ) (n : ℤ) → script ≡ 32 ∷ signed → signed ≡ 45 ∷ after → after ≡ word ++ 10 ∷ rest → IsNumeral 10 word →
    size ≡ digits_value 10 word
    → FitsSigned w64 (pos 0 -ℤ pos size) × (n ≡ pos 0 -ℤ pos size)
    → (all : List ℕ) × (script ≡ 32 ∷ all ++ 10 ∷ rest) × IsNumber all × (n ≡ signed_digits_value 10 all)
minus_number script signed after word rest size n space minus ends digits value (fits, is) =
    let same : pos 0 -ℤ pos size ≡ neg_ℤ (pos (digits_value 10 word)) = ap (λ v. pos 0 -ℤ pos v) value ∙ +ℤ_idl (neg_ℤ (pos (digits_value 10 word))) in
    (45 ∷ word, space ∙ ap (λ xs. 32 ∷ xs) (minus ∙ ap (λ xs. 45 ∷ xs) ends), (digits, subst (FitsSigned w64) same fits), is ∙ same)

pub four : (name : List ℕ) (a b c d : ℕ) → length name ≡ 4 → get_or name 0 0 ≡ a → get_or name 1 0 ≡ b → get_or name 2 0 ≡ c → get_or name 3 0 ≡ d → name ≡ a ∷ b ∷ c ∷ d ∷ []
four (w ∷ x ∷ y ∷ z ∷ []) a b c d len e f g h = rw (e, f, g, h) refl
four name a b c d len e f g h = absurd (omega (arith, len))

-- the first four bytes and the others
pub script_begins : (script name after word : List ℕ) → (name ≡ take 4 script) × (after ≡ drop 4 script) × (length after + 4 ≡ length script) → name ≡ word → script ≡ word ++ after
script_begins script name after word (first, later, _) named = sym (take-append-drop 4 script) ∙ ap (λ n. n ++ drop 4 script) (sym first ∙ named) ∙ ap (λ a. word ++ a) (sym later)

-- the lines that have a number
module _ (script after word rest : List ℕ) (n : ℤ) (ends : after ≡ 32 ∷ word ++ 10 ∷ rest) (is : IsNumber word) (value : n ≡ signed_digits_value 10 word) where
  pub push_line : script ≡ codes "push" ++ after → IsFirstLine script (Push n) rest
  push_line first =
      let lines =
      ap lines_of (first ∙ ap (λ xs. codes "push" ++ xs) ends) ∙ ap (λ ls. onto_first 112 (onto_first 117 (onto_first 115 (onto_first 104 (onto_first 32 ls))))) (number_line word rest is) in
      (112 ∷ 117 ∷ 115 ∷ 104 ∷ 32 ∷ word, lines, (word, ap (λ ws. codes "push" ∷ ws) (only_word word rest is), is, value))

  pub test_line : script ≡ codes "test" ++ after → IsFirstLine script (Test n) rest
  test_line first =
      let lines =
      ap lines_of (first ∙ ap (λ xs. codes "test" ++ xs) ends) ∙ ap (λ ls. onto_first 116 (onto_first 101 (onto_first 115 (onto_first 116 (onto_first 32 ls))))) (number_line word rest is) in
      (116 ∷ 101 ∷ 115 ∷ 116 ∷ 32 ∷ word, lines, (word, ap (λ ws. codes "test" ∷ ws) (only_word word rest is), is, value))

-- the lines that have none
pub pop_line : (script rest : List ℕ) → script ≡ codes "pop\n" ++ rest → IsFirstLine script Pop rest
pop_line script rest first = (codes "pop", ap lines_of first, refl)

pub len_line : (script rest : List ℕ) → script ≡ codes "len\n" ++ rest → IsFirstLine script Len rest
len_line script rest first = (codes "len", ap lines_of first, refl)
