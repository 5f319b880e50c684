-- States that differ, lists in which no two states are the same, and a greatest state, which is a cheapest one.
use Rattle.dary_heap.proofs.Common.{◌≡◌, ◌<◌, true, false, nat_eq, List, ◌∷◌, Contains, sym, ap, ◌∙◌, arith, true≢false, nat_tests, All-contains, All-contains_itself, All-weaker, recursion_from_All}
use Rattle.dary_heap.proofs.Common.{IsDistinct-IsPermutation, IsDistinct-cons, IsDistinct-head, IsDistinct-tail, nat_eq_equiv, IsDistinct, IsSameBag, State, ◌&&◌, ◌≤◌, inl, inr, cases_lt, nat_cmp}
use Rattle.dary_heap.proofs.Common.{ordering_then, Greater, IsGreatest, state_cmp, All-from_recursion, nat_cmp_is}
use Rattle.dary_heap.specs.shortest_path.Searching.{state_eq}

flips : (s t : State) → state_eq s t ≡ state_eq t s
flips s t = ap (λ b. b && nat_eq s.position t.position) (nat_eq_equiv.symm s.cost t.cost) ∙ ap (λ b. nat_eq t.cost s.cost && b) (nat_eq_equiv.symm s.position t.position)

itself : (s : State) → state_eq s s ≡ true
itself s = grind (arith, nat_tests)

pub differs : (s t : State) → (s.position ≡ t.position → s.cost < t.cost) → state_eq s t ≡ false
differs s t less = grind (arith, nat_tests)

-- a state that is cheaper than each of its node is none of them
pub apart_more : (s : State) (waiting grown : List State) → ((t : State) → Contains waiting t → s.position ≡ t.position → s.cost < t.cost) → IsDistinct state_eq waiting →
    IsSameBag (s ∷ waiting) grown → IsDistinct state_eq grown
apart_more s waiting grown cheaper apart bag =
    let others = recursion_from_All (λ t. state_eq s t ≡ false) waiting
    (All-weaker (Contains waiting) (λ t. state_eq s t ≡ false) (λ t in'. differs s t (cheaper t in')) waiting (All-contains_itself waiting)) in
    IsDistinct-IsPermutation state_eq flips (s ∷ waiting) grown bag (IsDistinct-cons state_eq s waiting others apart)

module _ (s : State) (waiting rest : List State) (apart : IsDistinct state_eq waiting) (bag : IsSameBag waiting (s ∷ rest)) where
  taken : IsDistinct state_eq (s ∷ rest)
  taken = IsDistinct-IsPermutation state_eq flips waiting (s ∷ rest) bag apart

  -- the others still differ
  pub apart_less : IsDistinct state_eq rest
  apart_less = IsDistinct-tail state_eq s rest taken

  -- and the one that was taken isn't among them
  pub not_twice : Contains rest s → ⊥
  not_twice in' =
      let differs = All-contains (λ t. state_eq s t ≡ false) rest s (All-from_recursion (λ t. state_eq s t ≡ false) rest (IsDistinct-head state_eq s rest taken)) in' in
      true≢false (sym (itself s) ∙ differs)

pub no_cheaper : (waiting : List State) (s : State) → IsGreatest state_cmp waiting s → (x : State) → Contains waiting x → s.cost ≤ x.cost
no_cheaper waiting s h x held = elim (cases_lt x.cost s.cost) [
  | inl lt ↦ absurd (h.none_above x held (ap (λ r. ordering_then r (nat_cmp x.position s.position)) (sym (nat_cmp_is s.cost x.cost Greater lt))))
  | inr le ↦ le
]
