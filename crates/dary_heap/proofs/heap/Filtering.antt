-- A predicate that is asked about the items of a list, one after another.
use Rattle.dary_heap.proofs.{◌≡◌, ℕ, zero, suc, ◌+◌, ◌<◌, ◌≤◌, Bool, true, false, List, [], ◌∷◌, ◌++◌, length, get_or, refl, sym, ap, ◌∙◌, subst, arith, Some, slice_get, take, drop, take_more}
use Rattle.dary_heap.proofs.{slice_get_within, get_or_from_slice_get, Mut, TakesAt, CalledAt, Bor, items_where_true, ReturnsInTurn, TakesInTurn, first_no, bool_byte, ◌&&◌, nat_eq, set, swap}
use Rattle.dary_heap.proofs.{take_all, exchanges, length-take, take-set-le, swap_is}
use Rattle.std.proofs.Retain.{answers_push, picked_push_true}
use Rattle.std.proofs.Math.Dec.{eqb-suc-suc, eqb-zero-suc}

-- one item more, by the answer for it
pub ReturnsInTurn-more : {X P : Type 0} (R : P → X → Bool → P → Type 0) (p q r : P) (bs : List Bool) (b : Bool) (xs : List X) (x : X) → slice_get xs (length bs) ≡ Some x →
    ReturnsInTurn R p bs xs q → R q x b r → ReturnsInTurn R p (bs ++ b ∷ []) xs r
ReturnsInTurn-more R p q r bs b xs x at told next = answers_push R p q r bs xs x b (slice_get_within xs (length bs) x at) (sym (get_or_from_slice_get xs (length bs) x x at)) told next

module _ {X : Type 0} where
  pub picked-yes : (bs : List Bool) (xs : List X) (x : X) → slice_get xs (length bs) ≡ Some x → items_where_true (bs ++ true ∷ []) xs ≡ items_where_true bs xs ++ x ∷ []
  picked-yes bs xs x at =
      picked_push_true bs xs x (slice_get_within xs (length bs) x at) ∙ ap (λ z. items_where_true bs xs ++ z ∷ []) (get_or_from_slice_get xs (length bs) x x at)

  -- no more are picked than there are
  pub few_picked : (bs : List Bool) (xs : List X) → length (items_where_true bs xs) ≤ length xs
  few_picked [] xs = omega arith
  few_picked (b ∷ bs) [] = omega arith
  few_picked (true ∷ bs) (x ∷ xs) = omega (arith, few_picked bs xs)
  few_picked (false ∷ bs) (x ∷ xs) = omega (arith, few_picked bs xs)

pub first_no-within : (bs : List Bool) → first_no bs ≤ length bs
first_no-within [] = omega arith
first_no-within (true ∷ bs) = omega (arith, first_no-within bs)
first_no-within (false ∷ bs) = omega arith

-- one answer more, which is the first no if each before was a yes
pub first_no-more : (bs : List Bool) (b : Bool) → first_no (bs ++ b ∷ []) ≡ first_no bs + bool_byte (b && nat_eq (first_no bs) (length bs))
first_no-more [] true = refl
first_no-more [] false = refl
first_no-more (true ∷ bs) b = omega (arith, first_no-more bs b, ap (λ t. bool_byte (b && t)) (eqb-suc-suc (first_no bs) (length bs)))
first_no-more (false ∷ bs) true = omega (arith, ap bool_byte (eqb-zero-suc (length bs)))
first_no-more (false ∷ bs) false = refl

-- the next item may be asked about, and then those after it
pub next_asked : {X P : Type 0} (calls : Mut P (Bor X × Unit {0}) Bool) (f : P) (old : List X) (place : ℕ) (x : X) → slice_get old place ≡ Some x → TakesInTurn calls f (drop place old) →
    TakesAt calls f x × ((answer : Bool) (after : P) → CalledAt calls f x answer after → TakesInTurn calls after (drop (suc place) old))
next_asked calls f [] place x at h = cc
next_asked {P = P} calls f (y ∷ old) zero x at h =
    let same : y ≡ x = (cc) in
    subst (λ z. TakesAt calls f z × ((answer : Bool) (after : P) → CalledAt calls f z answer after → TakesInTurn calls after old)) same h
next_asked calls f (y ∷ old) (suc place) x at h = next_asked calls f old place x at h

-- items that change places behind a front leave it as it is
pub take-before : {X : Type 0} (xs ys : List X) (k p : ℕ) (x : X) → k ≤ p → p < length xs → ys ≡ swap xs k p → take k ys ≡ take k xs
take-before xs ys k p x le within is =
    ap (take k) (is ∙ sym (swap_is xs k p x (omega arith) within)) ∙ take-set-le k (set xs k (get_or xs p x)) p (get_or xs k x) le ∙ take-set-le k xs k (get_or xs p x) (omega arith)

-- an item that is brought to the end of the front
pub take-brought : {X : Type 0} (xs ys : List X) (k p : ℕ) (x : X) → k ≤ p → p < length xs → slice_get xs p ≡ Some x → ys ≡ swap xs k p → take (k + 1) ys ≡ take k xs ++ x ∷ []
take-brought xs ys k p x le within at is =
    let e = exchanges xs ys k p (omega arith) within is in
    let brought : get_or ys k x ≡ x = get_or_from_slice_get ys k x x (e.first ∙ at) in
    take_more ys k x (omega (arith, e.len)) ∙ ap (λ l. l ++ get_or ys k x ∷ []) (take-before xs ys k p x le within is) ∙ ap (λ z. take k xs ++ z ∷ []) brought

-- the items before the first that is left out
pub picked-front : {X : Type 0} (bs : List Bool) (xs : List X) → length bs ≡ length xs → take (first_no bs) (items_where_true bs xs) ≡ take (first_no bs) xs
picked-front [] [] long = refl
picked-front [] (x ∷ xs) long = refl
picked-front (b ∷ bs) [] long = absurd (omega arith)
picked-front (true ∷ bs) (x ∷ xs) long = ap (λ zs. x ∷ zs) (picked-front bs xs (omega arith))
picked-front (false ∷ bs) (x ∷ xs) long = refl

-- no fewer are left than come before the first that is left out
pub many_picked : {X : Type 0} (bs : List Bool) (xs : List X) → length bs ≡ length xs → first_no bs ≤ length (items_where_true bs xs)
many_picked bs xs long = omega (arith, first_no-within bs, ap length (picked-front bs xs long), length-take (first_no bs) (items_where_true bs xs), length-take (first_no bs) xs)

-- where each answer was yes, all are picked
pub picked-all : {X : Type 0} (bs : List Bool) (xs : List X) → length bs ≡ length xs → first_no bs ≡ length bs → items_where_true bs xs ≡ xs
picked-all bs xs long all = sym (take_all (first_no bs) (items_where_true bs xs) (omega (arith, few_picked bs xs))) ∙ picked-front bs xs long ∙ take_all (first_no bs) xs (omega arith)
