-- Tables that lead back: what one names from a node on is one list, of fewer nodes than the table has; and a way with an edge more.
use Rattle.dary_heap.proofs.Common.{◌≡◌, ◌≢◌, ℕ, zero, suc, ◌+◌, ◌<◌, inl, inr, List, [], ◌∷◌, ◌++◌, length, get_or, set, get_or_from_slice_get, append-nil, take, drop, take-append-drop, nil_from_length, ◌-◌, append_assoc, map-append, Contains, arith, refl, sym, ap, ◌∙◌, subst, slice_get, slice_get_within, Graph, HasEdge}
use Rattle.dary_heap.proofs.Common.{AllByRecursion, IsDistinct, IsDistinct-IsPermutation, IsDistinct-cons, nat_eq, nat_eq_equiv, ne_eqb, false}
use Rattle.dary_heap.proofs.Bags.{Contains-cases, Contains-first, Contains-later, holds_none}
use Rattle.dary_heap.proofs.shortest_path.Searching.{cost_more, walk_more}
use Rattle.dary_heap.specs.declared.shortest_path.Edge.{Edge}
use Rattle.std.proofs.Common.{reverse}
use Rattle.std.proofs.lemmas.List.{drop_all, reverse-append}
use Rattle.std.proofs.lemmas.List.Sorted.{IsPermutation-reverse}
use Rattle.std.proofs.lemmas.Grind.{drop-set_at}
use Rattle.indexed_heap.proofs.shortest_path.Waiting.{distinct_few}
use Rattle.indexed_heap.specs.Ways.{IsNamedFrom, IsWayOf}

module _ (before : List ℕ) (start : ℕ) where
  pub named_once : (v : ℕ) (nodes more : List ℕ) → IsNamedFrom before start v nodes → IsNamedFrom before start v more → nodes ≡ more
  named_once v [] [] h k = refl
  named_once v [] (w ∷ more) h k = absurd (k.0 h)
  named_once v (u ∷ nodes) [] h k = absurd (h.0 k)
  named_once v (u ∷ nodes) (w ∷ more) h k =
      let same : u ≡ w = (cc (h.1, k.1)) in
      let rest : nodes ≡ more = named_once u nodes more h.2 (subst (λ (x : ℕ). IsNamedFrom before start x more) (sym same) k.2) in
      cc (same, rest)

  -- from a node that is named on, fewer nodes are named
  named_later : (v : ℕ) (nodes : List ℕ) → IsNamedFrom before start v nodes → (u : ℕ) → Contains nodes u → (rest : List ℕ) × IsNamedFrom before start u rest × (length rest < length nodes)
  named_later v [] h u in' = absurd (holds_none u in')
  named_later v (w ∷ nodes) h u in' = elim (Contains-cases w nodes u in') [
    | inl is ↦ (nodes, subst (λ (x : ℕ). IsNamedFrom before start x nodes) is h.2, omega arith)
    | inr later ↦ let r = named_later w nodes h.2 u later in (r.0, r.1, omega (arith, r.2))
  ]

  -- a node isn't named from itself on
  not_named : (v : ℕ) (nodes : List ℕ) → IsNamedFrom before start v nodes → Contains nodes v → ⊥
  not_named v nodes h in' =
      let r = named_later v nodes h v in' in
      omega (arith, r.2, ap (λ (l : List ℕ). length l) (named_once v nodes r.0 h r.1))

  others : (v : ℕ) (nodes : List ℕ) → (Contains nodes v → ⊥) → AllByRecursion (λ u. nat_eq v u ≡ false) nodes
  others v [] none = tt
  others v (u ∷ nodes) none = (ne_eqb v u (λ is. none (subst (λ (x : ℕ). Contains (u ∷ nodes) x) (sym is) (Contains-first u nodes))), others v nodes (λ in'. none (Contains-later u nodes v in')))

  pub named_distinct : (v : ℕ) (nodes : List ℕ) → IsNamedFrom before start v nodes → IsDistinct nat_eq (v ∷ nodes)
  unfolding IsDistinct
  named_distinct v [] h = IsDistinct-cons nat_eq v [] tt tt
  named_distinct v (u ∷ nodes) h = IsDistinct-cons nat_eq v (u ∷ nodes) (others v (u ∷ nodes) (not_named v (u ∷ nodes) h)) (named_distinct u nodes h.2)

  node_within : (v : ℕ) (nodes : List ℕ) → start < length before → IsNamedFrom before start v nodes → v < length before
  node_within v [] here h = subst (λ (x : ℕ). x < length before) (sym h) here
  node_within v (u ∷ nodes) here h = slice_get_within before v u h.1

  named_within : (v : ℕ) (nodes : List ℕ) → start < length before → IsNamedFrom before start v nodes → (q : ℕ) → Contains (v ∷ nodes) q → q < length before
  named_within v [] here h q in' = elim (Contains-cases v [] q in') [
    | inl is ↦ subst (λ (x : ℕ). x < length before) is (node_within v [] here h)
    | inr later ↦ absurd (holds_none q later)
  ]
  named_within v (u ∷ nodes) here h q in' = elim (Contains-cases v (u ∷ nodes) q in') [
    | inl is ↦ subst (λ (x : ℕ). x < length before) is (node_within v (u ∷ nodes) here h)
    | inr later ↦ named_within u nodes here h.2 q later
  ]

  -- fewer nodes are named than the table has
  pub named_few : (v : ℕ) (nodes : List ℕ) → start < length before → IsNamedFrom before start v nodes → length nodes < length before
  named_few v nodes here h = omega (arith, distinct_few (length before) (v ∷ nodes) (named_distinct v nodes h) (named_within v nodes here h))

  -- from any node but start another one is named, which is in the table
  pub named_next : (v : ℕ) (nodes : List ℕ) → 0 < length nodes → IsNamedFrom before start v nodes →
      (more : List ℕ) × (nodes ≡ get_or before v 0 ∷ more) × (v < length before) × IsNamedFrom before start (get_or before v 0) more
  named_next v [] some h = absurd (omega arith)
  named_next v (u ∷ more) some h =
      let is : get_or before v 0 ≡ u = get_or_from_slice_get before v u 0 h.1 in
      (more, ap (λ (x : ℕ). x ∷ more) (sym is), slice_get_within before v u h.1, subst (λ (x : ℕ). IsNamedFrom before start x more) (sym is) h.2)

  pub named_some : (v : ℕ) (nodes : List ℕ) → v ≢ start → IsNamedFrom before start v nodes → 0 < length nodes
  named_some v [] ne h = absurd (ne h)
  named_some v (u ∷ nodes) ne h = omega arith

  pub named_none : (nodes : List ℕ) → IsNamedFrom before start start nodes → nodes ≡ []
  named_none [] h = refl
  named_none (u ∷ nodes) h = absurd (h.0 refl)

  -- another table that has the same there
  pub named_stays : (after : List ℕ) (v : ℕ) (nodes : List ℕ) → ((u : ℕ) → Contains (v ∷ nodes) u → slice_get after u ≡ slice_get before u) → IsNamedFrom before start v nodes →
      IsNamedFrom after start v nodes
  named_stays after v [] same h = h
  named_stays after v (u ∷ nodes) same h = (h.0, same v (Contains-first v (u ∷ nodes)) ∙ h.1, named_stays after u nodes (λ w in'. same w (Contains-later v (u ∷ nodes) w in')) h.2)

pub way_self : {g : Graph} (v : ℕ) → IsWayOf g v v (v ∷ []) 0
way_self v = record { walk = []; leads = refl; costs = refl; visits = refl }

pub way_more : {g : Graph} {start v cost : ℕ} {nodes : List ℕ} (e : Edge) → IsWayOf g start v nodes cost → HasEdge g v e → IsWayOf g start e.node (nodes ++ e.node ∷ []) (cost + e.cost)
way_more {g} {start} {v} {cost} {nodes} e h has = record {
  walk = h.walk ++ e ∷ [];
  leads = walk_more g start h.walk v e h.leads has;
  costs = omega (arith, cost_more h.walk e, h.costs);
  visits = ap (λ (l : List ℕ). l ++ e.node ∷ []) h.visits ∙ ap (λ (l : List ℕ). start ∷ l) (sym (map-append (λ (e : Edge). e.node) h.walk (e ∷ [])));
}

-- no node occurs twice in a way that is read from a table
pub way_once : (before : List ℕ) (start goal : ℕ) (named : List ℕ) → IsNamedFrom before start goal named → IsDistinct nat_eq (reverse (goal ∷ named))
way_once before start goal named h =
    IsDistinct-IsPermutation nat_eq nat_eq_equiv.symm (goal ∷ named) (reverse (goal ∷ named)) (IsPermutation-reverse (goal ∷ named)) (named_distinct before start goal named h)

pub reverse_first : (v : ℕ) (nodes more : List ℕ) → reverse (v ∷ nodes) ++ more ≡ reverse nodes ++ v ∷ more
reverse_first v nodes more = ap (λ (l : List ℕ). l ++ more) (reverse-append (v ∷ []) nodes) ∙ append_assoc (reverse nodes) (v ∷ []) more

-- a list that is filled from its end on with what is read, by the place that is written next
module _ (before : List ℕ) (start goal : ℕ) where
  pub record IsReadDownTo (place v : ℕ) (items : List ℕ) (nodes : List ℕ) : Type 0 where
    pub rest : List ℕ
    pub named : IsNamedFrom before start v rest
    pub left : length rest ≡ place
    pub done : reverse (v ∷ rest) ++ drop (place + 1) items ≡ reverse (goal ∷ nodes)

  pub read_begins : (place : ℕ) (items nodes : List ℕ) → IsNamedFrom before start goal nodes → length nodes ≡ place → length items ≡ place + 1 → IsReadDownTo place goal items nodes
  read_begins place items nodes named left long = record {
    rest = nodes;
    named = named;
    left = left;
    done = ap (λ (l : List ℕ). reverse (goal ∷ nodes) ++ l) (drop_all (place + 1) items (omega (arith, long))) ∙ append-nil (reverse (goal ∷ nodes));
  }

  pub read_more : (place v : ℕ) (items nodes : List ℕ) → 0 < place → place < length items → IsReadDownTo place v items nodes →
      IsReadDownTo (place - 1) (get_or before v 0) (set items place v) nodes
  read_more place v items nodes some within h =
      let next = named_next before start v h.rest (omega (arith, h.left, some)) h.named in
      let u = get_or before v 0 in
      record {
        rest = next.0;
        named = next.3;
        left = omega (arith, h.left, ap (λ (l : List ℕ). length l) next.1);
        done =
            ap (λ (l : List ℕ). reverse (u ∷ next.0) ++ l) (drop-set_at items place (place - 1 + 1) v (omega (arith, some)) within)
            ∙ sym (reverse_first v (u ∷ next.0) (drop (place + 1) items))
            ∙ ap (λ (l : List ℕ). reverse (v ∷ l) ++ drop (place + 1) items) (sym next.1)
            ∙ h.done;
      }

  pub read_ends : (place v : ℕ) (items nodes : List ℕ) → place ≡ 0 → take 1 items ≡ start ∷ [] → IsReadDownTo place v items nodes → items ≡ reverse (goal ∷ nodes)
  read_ends (suc place) v items nodes at_end first h = absurd (omega arith)
  read_ends zero v items nodes at_end first h =
      let none : h.rest ≡ [] = nil_from_length h.rest h.left in
      let at : v ≡ start = subst (IsNamedFrom before start v) none h.named in
      sym (take-append-drop 1 items)
      ∙ ap (λ (l : List ℕ). l ++ drop 1 items) first
      ∙ ap (λ (x : ℕ). reverse (x ∷ []) ++ drop 1 items) (sym at)
      ∙ ap (λ (l : List ℕ). reverse (v ∷ l) ++ drop 1 items) (sym none)
      ∙ h.done
