-- Clones that give the same value.
use Rattle.dary_heap.proofs.{◌≡◌, List, [], ◌∷◌, Contains, refl, Contains-first, Contains-later}
use Rattle.std.specs.List.{AllZip}

-- a list of clones, each of which gives the same value
pub clones_same : {X : Type 0} (is_clone : X → X → Type 0) (xs ys : List X) → ((x y : X) → Contains xs x → is_clone x y → y ≡ x) → AllZip is_clone xs ys → ys ≡ xs
clones_same is_clone [] [] gives h = refl
clones_same is_clone [] (y ∷ ys) gives h = absurd h
clones_same is_clone (x ∷ xs) [] gives h = absurd h
clones_same is_clone (x ∷ xs) (y ∷ ys) gives h =
    let first : y ≡ x = gives x y (Contains-first x xs) h.0 in
    let rest : ys ≡ xs = clones_same is_clone xs ys (λ a b in'. gives a b (Contains-later x xs a in')) h.1 in
    cc
