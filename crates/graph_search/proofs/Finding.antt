-- A node is found: its number, and what is noted of it.
use Rattle.dary_heap.proofs.Common.{◌≡◌, ◌⊎◌, ℕ, ◌+◌, ◌<◌, ◌≤◌, Bool, inl, inr, List, [], ◌∷◌, ◌++◌}
use Rattle.dary_heap.proofs.Common.{length, Contains, Option, Some, slice_get, slice_get_within, sym, ap, ◌∙◌, subst, arith, cases_eq, length-append}
use Rattle.dary_heap.proofs.Order.{slice_get-append}
use Rattle.std.specs.List.{IsDistinct}
use Rattle.indexed_heap.proofs.Callers.{one_item}
use Rattle.indexed_heap.proofs.shortest_path.Waiting.{came, kept}
use Rattle.indexed_heap.specs.Entries.{AreDistinct, Gets, IsReached, Raises, by_item}
use Rattle.dary_heap.proofs.Common.{false, nat_cmp, true}
use Rattle.dary_heap.proofs.Callers.{nat_le_from_cmp}
use Rattle.std.specs.Bool.{OnFalse, OnTrue}
use Rattle.std.specs.declared.cmp.Ordering.{Ordering}
use Rattle.graph_search.specs.Searching.{Finds, IsKnown, IsRaised, IsReady, Numbers, Sets, Tables}
use Rattle.graph_search.specs.declared.search.Reached.{Reached}

pub raised : {number cost : ℕ} {old new : List (ℕ × ℕ)} (given : Option ℕ) → Gets number cost old given new → AreDistinct new → IsRaised number cost old new
raised {number} {cost} {old} {new} given gets distinct = record {
  waits = gets.has;
  kept = λ e h. kept given gets e h;
  came = λ e h. elim (cases_eq e.0 number) [
    | inl is ↦
        let there : Contains new (number, e.1) = subst (λ (v : ℕ). Contains new (v, e.1)) is h in
        let same : cost ≡ e.1 = one_item number new cost e.1 distinct gets.has there in
        inl (subst (λ (v : ℕ). ◌≡◌ {A = ℕ × ℕ} (number, cost) (v, e.1)) (sym is) (ap (λ (c : ℕ). let p : ℕ × ℕ = (number, c) in p) same))
    | inr ne ↦ elim (came given gets e h) [
      | inl is ↦ absurd (ne (sym (ap (λ (e : ℕ × ℕ). e.0) is)))
      | inr before ↦ inr (before, ne)
    ]
  ];
}

-- a raise, which does so since no less dear cost was known
pub lowered : {number cost before : ℕ} {old new : List Reached} {entries after : List (ℕ × ℕ)} → let order : ℕ × ℕ → ℕ × ℕ → Ordering = by_item (λ x y. nat_cmp y x) in
    ((e : ℕ × ℕ) → Contains entries e → (how : Reached) × (slice_get old e.0 ≡ Some how) × (how.cost ≡ e.1)) → Sets number cost before old new → AreDistinct after →
    (b : Bool) → OnTrue b (Raises order number cost entries after) → OnFalse b (IsReached order number cost entries × (after ≡ entries)) → IsRaised number cost entries after
lowered exact sets distinct true gets had = raised gets.given gets.gets distinct
lowered {number} {cost} exact sets distinct false gets had =
    let x = exact (number, had.0.held) had.0.has in
    absurd (omega (arith, sets.falls x.0 x.1, x.2, nat_le_from_cmp had.0.held cost had.0.under))

-- an element that was there stays
pub stays : {X : Type 0} (xs ys : List X) (i : ℕ) (x : X) → slice_get xs i ≡ Some x → slice_get (xs ++ ys) i ≡ Some x
stays xs ys i x at = slice_get-append xs ys i (slice_get_within xs i x at) ∙ at

module _ {N : Type 0} {eq : N → N → Bool} {node : N} {number : ℕ} {names more : List N} (numbers : Numbers eq node number names more) where
  names_stay : (i : ℕ) (u : N) → slice_get names i ≡ Some u → slice_get more i ≡ Some u
  names_stay i u at = elim numbers.either [
    | inl same ↦ subst (λ (l : List N). slice_get l i ≡ Some u) (sym same) at
    | inr new ↦ subst (λ (l : List N). slice_get l i ≡ Some u) (sym new.0) (stays names (node ∷ []) i u at)
  ]

  fresh : names ≡ [] → (number ≡ 0) × (numbers.stored ≡ node)
  fresh none = elim numbers.either [
    | inl same ↦
        let empty : length more ≡ 0 = ap (λ (l : List N). length l) (same ∙ none) in
        absurd (omega (arith, empty, slice_get_within more number numbers.stored numbers.there))
    | inr new ↦ (new.2 ∙ ap (λ (l : List N). length l) none, new.1)
  ]

  length_names : (length more ≡ length names) × (number < length names) ⊎ (length more ≡ length names + 1) × (number ≡ length names)
  length_names = elim numbers.either [
    | inl same ↦
        let l : length more ≡ length names = ap (λ (l : List N). length l) same in
        inl (l, omega (arith, l, slice_get_within more number numbers.stored numbers.there))
    | inr new ↦ inr (ap (λ (l : List N). length l) new.0 ∙ length-append names (node ∷ []), new.2)
  ]

  pub few : number ≤ length names
  few = elim length_names [ inl p ↦ omega (arith, p.1) | inr p ↦ omega (arith, p.1) ]

module _ {N : Type 0} {eq : N → N → Bool} {node : N} {number cost before : ℕ} {old new : Tables N}
    (ready : IsReady old) (numbers : Numbers eq node number old.names new.names) (unique : IsDistinct eq new.names) where
  pub found_known : IsKnown number cost old.reached new.reached → new.entries ≡ old.entries → Finds eq node cost before old new
  found_known known entries = record {
    number = number;
    name = numbers.stored;
    there = numbers.there;
    same = numbers.same;
    unique = unique;
    ready = record {
      long = let l : length new.reached ≡ length old.reached = ap (λ (l : List Reached). length l) known.same in
          elim (length_names numbers) [
            | inl p ↦ omega (arith, p.0, l, ready.long)
            | inr p ↦ absurd (omega (arith, p.1, ready.long, slice_get_within old.reached number known.how known.there))
          ];
      exact = λ e h.
          let was = ready.exact e (subst (λ (l : List (ℕ × ℕ)). Contains l e) entries h) in
          (was.0, subst (λ (l : List Reached). slice_get l e.0 ≡ Some was.0) (sym known.same) was.1, was.2);
    };
    names = names_stay numbers;
    fresh = fresh numbers;
    either = inl (known, entries);
  }

  pub found_raised : Sets number cost before old.reached new.reached → IsRaised number cost old.entries new.entries → Finds eq node cost before old new
  found_raised sets raises = record {
    number = number;
    name = numbers.stored;
    there = numbers.there;
    same = numbers.same;
    unique = unique;
    ready = record {
      long = elim (length_names numbers) [
        | inl p ↦ omega (arith, p.0, p.1, sets.long, ready.long)
        | inr p ↦ omega (arith, p.0, p.1, sets.long, ready.long)
      ];
      exact = λ e h. elim (raises.came e h) [
        | inl is ↦ (
          record { cost = cost; before = before },
          subst (λ (e : ℕ × ℕ). slice_get new.reached e.0 ≡ Some (record { cost = cost; before = before })) is sets.now,
          ap (λ (e : ℕ × ℕ). e.1) is,
        )
        | inr p ↦ let was = ready.exact e p.0 in (was.0, sets.others e.0 p.1 ∙ was.1, was.2)
      ];
    };
    names = names_stay numbers;
    fresh = fresh numbers;
    either = inr (sets, raises);
  }
