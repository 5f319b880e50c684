-- How a line is parted into words.
use Rattle.dheap.proofs.Common.{◌≡◌, ◌<◌, ◌==◌, not, ℕ, cond, List, [], ◌∷◌, length, filter, Option, None, Some, refl, sym, ap, arith, ne_eqb}
use Rattle.std.proofs.lemmas.Iterator.{YieldsList}
use Rattle.std.proofs.lemmas.Iterator.Consumers.{YieldsList-end, YieldsList-turn}
use Rattle.std.specs.Option.{MatchOption}

pub word_kept : (word : List ℕ) (words : List (List ℕ)) → 0 < length word → filter (λ w. not (length w == 0)) (word ∷ words) ≡ word ∷ filter (λ w. not (length w == 0)) words
word_kept word words some = ap (λ b. cond (not b) (word ∷ filter (λ w. not (length w == 0)) words) (filter (λ w. not (length w == 0)) words)) (ne_eqb (length word) 0 (λ e. omega (arith, some, e)))

-- what three calls of `next` say of all that an iterator yields
pub three : {S A B : Type 0} {steps : S → Option A → S → Type 0} {v : A → B} {all : List B} (s t u w : S) (p q r : Option A) → steps s p t → steps t q u → steps u r w → YieldsList steps v s all
    → MatchOption p (all ≡ []) (λ x. MatchOption q (all ≡ v x ∷ []) (λ y. MatchOption r (all ≡ v x ∷ v y ∷ []) (λ z. 2 < length all)))
three s t u w None q r h k l e = sym (YieldsList-end e [] s refl None t refl h).0
three s t u w (Some x) None r h k l e = sym (YieldsList-end e (x ∷ []) t (t, h, refl) None u refl k).0
three s t u w (Some x) (Some y) None h k l e = sym (YieldsList-end e (x ∷ y ∷ []) u (t, h, (u, k, refl)) None w refl l).0
three s t u w (Some x) (Some y) (Some z) h k l e = (YieldsList-turn e (x ∷ y ∷ []) u (t, h, (u, k, refl)) (Some z) w z refl l).0
