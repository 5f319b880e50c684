-- Nodes by what `==` compares: a pair itself, the text of a `String`, the items of a `Vec`. The value of a `String` or a `Vec` also has its capacity, so equal values need not be the same.
use Rattle.std.specs.Prelude.{◌≡◌, ℕ, Bool, true, List, Contains}
use Rattle.std.specs.String.{string_bytes, string_eq}
use Rattle.std.specs.Str.{bytes_eq}
use Rattle.std.proofs.Common.{Vec}
use Rattle.std.proofs.lemmas.Slice.Eq.{bytes_eq-Decides}
use mathlib.Core.Path.{subst, sym}
use Rattle.graph_search.specs.Walk.{AreAlike}

-- values are equal just if they have the same key
pub record IsKey {N K : Type 0} (eq : N → N → Bool) (key : N → K) : Type 0 where
  pub same : (u v : N) → eq u v ≡ true → key u ≡ key v
  pub equal : (u v : N) → key u ≡ key v → eq u v ≡ true

-- an edge for each step that leaves the key of a node: the key of the node that it leads to, and its cost
abbrev pub steps_by : {N K : Type 0} → (N → K) → (K → List (K × ℕ)) → N → N → ℕ → Type 0
steps_by key steps u v cost = Contains (steps (key u)) (key v, cost)

pub alike_by_key : {N K : Type 0} {eq : N → N → Bool} {key : N → K} → IsKey eq key → (steps : K → List (K × ℕ)) → AreAlike eq (steps_by key steps)
alike_by_key {N} {K} {eq} {key} is steps u v w x cost first second leads =
    subst (λ (k : K). Contains (steps k) (key x, cost)) (is.same u v first) (subst (λ (k : K). Contains (steps (key u)) (k, cost)) (is.same w x second) leads)

-- of values whose equality compares them whole
pub key_itself : {N : Type 0} {eq : N → N → Bool} → ((u v : N) → eq u v ≡ true → u ≡ v) → ((v : N) → eq v v ≡ true) → IsKey eq (λ v. v)
key_itself {N} {eq} same itself = record { same = same; equal = λ u v is. subst (λ (x : N). eq u x ≡ true) is (itself u) }

-- of texts
pub key_of_text : {Z : Type 0} → IsKey (string_eq {Z = Z}) string_bytes
key_of_text = record {
  same = λ u v. (bytes_eq-Decides (string_bytes u) (string_bytes v)).0;
  equal = λ u v. (bytes_eq-Decides (string_bytes u) (string_bytes v)).1;
}

-- of lists of numbers
pub key_of_numbers : {Z : Type 0} → IsKey (λ (u v : Vec ℕ Z). bytes_eq u.items v.items) (λ (v : Vec ℕ Z). v.items)
key_of_numbers = record {
  same = λ u v. (bytes_eq-Decides u.items v.items).0;
  equal = λ u v. (bytes_eq-Decides u.items v.items).1;
}
