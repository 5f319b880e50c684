-- Entries as the states of a search, and an edge that leads to something cheaper.
use Rattle.dary_heap.proofs.Common.{◌≡◌, ◌⊎◌, ℕ, ◌+◌, ◌<◌, ◌≤◌, inl, inr, List, [], ◌∷◌, length, Contains, All, All-contains, arith, get_or, get_or-set_same, get_or_from_slice_get, sym, ap, ◌∙◌}
use Rattle.dary_heap.proofs.Common.{subst, set, length-set, length-map, length_permutation, sum_by-set, Contains-push, Option, Some, None, slice_get, slice_get_within, Vec, Global, Graph, IsWithin}
use Rattle.dary_heap.proofs.Common.{IsSameBag, IsGreatest, state, AreApart, nat_cmp}
use Rattle.dary_heap.proofs.Fronts.{alone}
use Rattle.dary_heap.proofs.Callers.{Contains-map, nat_le_from_cmp}
use Rattle.dary_heap.proofs.shortest_path.Apart.{differs}
use Rattle.dary_heap.proofs.shortest_path.Relaxing.{written}
use Rattle.dary_heap.specs.shortest_path.Searching.{state_eq}
use Rattle.dary_heap.specs.declared.shortest_path.Edge.{Edge}
use Rattle.dary_heap.specs.declared.shortest_path.State.{State}
use Rattle.indexed_heap.specs.Entries.{Gets, Indexed, by_item}
use Rattle.std.proofs.lemmas.List.Sorted.{IsPermutation-map}
use Rattle.indexed_heap.specs.Lowering.{IsReady, Lowers, Waits, states}
use Rattle.indexed_heap.proofs.shortest_path.Waiting.{Contains-map_cases, Entry, came, distinct_by, kept, longer}

abbrev pub state_of : Entry → State
state_of e = state e.1 e.0

pub states_same : (old new : List Entry) → IsSameBag old new → IsSameBag (states old) (states new)
states_same old new bag = IsPermutation-map state_of old new bag

-- the entry that is taken costs least
pub low_of : (entries : List Entry) (e : Entry) → IsGreatest (by_item (λ x y. nat_cmp y x)) entries e → (s : State) → Contains (states entries) s → e.1 ≤ s.cost
low_of entries e h s in' =
    let x = Contains-map_cases state_of entries s in' in
    subst (λ (s : State). e.1 ≤ s.cost) x.2 (nat_le_from_cmp e.1 x.0.1 (h.none_above x.0 x.1))

alone_given : (node cost : ℕ) (new : List Entry) (given : Option ℕ) → Gets node cost [] given new → IsSameBag (state cost node ∷ []) (states new)
alone_given node cost new None w = IsPermutation-map state_of ((node, cost) ∷ []) new w.bag
alone_given node cost new (Some less) w =
    let long : 1 ≡ length new + 1 = omega (arith, length_permutation ((node, cost) ∷ []) ((node, less) ∷ new) w.bag) in
    let there : w.has.0 < length new = w.has.1 in
    absurd (omega arith)

-- the start waits alone
pub begins_alone : {start : ℕ} {old new : List Entry} → old ≡ [] → Waits start 0 old new → IsSameBag (state 0 start ∷ []) (states new)
begins_alone {start} {old} {new} none w = alone_given start 0 new w.0 (subst (λ (es : List Entry). Gets start 0 es w.0 new) none w.1)

-- what is ready waits apart
ready_apart : {limit : ℕ} {found : List ℕ} {heap : Indexed ℕ} → IsReady limit found heap → AreApart limit found (states heap.entries)
ready_apart {limit} {found} {heap} ready = record {
  distinct = distinct_by state_of state_eq (λ d e ne. differs (state_of d) (state_of e) (λ same. absurd (ne same))) heap.entries ready.distinct;
  above = λ s h. let x = Contains-map_cases state_of heap.entries s h in subst (λ (s : State). get_or found s.position limit ≤ s.cost) x.2 (omega (arith, ready.exact x.0 x.1));
}

module _ {limit cost : ℕ} (e : Edge) (found : List ℕ) (below : cost + e.cost < limit) (within : e.node < length found) where
  pub relaxes_lowered : (old new : Indexed ℕ) → IsReady limit found old → cost + e.cost < get_or found e.node limit → Waits e.node (cost + e.cost) old.entries new.entries →
      IsReady limit (set found e.node (cost + e.cost)) new → Lowers limit cost (e ∷ []) found old.entries (set found e.node (cost + e.cost)) new.entries
  relaxes_lowered old new ready under w ready_then =
      let c = cost + e.cost in
      let here : get_or (set found e.node c) e.node limit ≡ c = get_or-set_same found e.node c limit within in
      let came_state : (s : State) → Contains (states new.entries) s → (state c e.node ≡ s) ⊎ Contains (states old.entries) s = λ s h.
      let x = Contains-map_cases state_of new.entries s h in
      elim (came w.0 w.1 x.0 x.1) [
        | inl is ↦ inl (ap state_of is ∙ x.2)
        | inr before ↦ inr (subst (Contains (states old.entries)) x.2 (Contains-map state_of old.entries x.0 before))
      ] in
      record {
        same = length-set found e.node c;
        falls = λ v. elim (written limit found e.node c v within) [
          | inl p ↦ omega (arith, p.1, under, ap (λ i. get_or found i limit) p.0)
          | inr q ↦ omega arith
        ];
        sums = λ d h. subst (λ (d : Edge). cost + d.cost < limit) (alone e d h) below;
        ends = λ d h. subst (λ (d : Edge). get_or (set found e.node c) d.node limit ≤ cost + d.cost) (alone e d h) (omega (arith, here));
        keeps = λ s h.
            let x = Contains-map_cases state_of old.entries s h in
            elim (kept w.0 w.1 x.0 x.1) [
              | inl still ↦ inl (subst (Contains (states new.entries)) x.2 (Contains-map state_of new.entries x.0 still))
              | inr same ↦ inr (subst (λ (s : State). get_or (set found e.node c) s.position limit < s.cost) x.2
                  (omega (arith, here, under, ready.exact x.0 x.1, ap (λ (i : ℕ). get_or found i limit) same, ap (λ (i : ℕ). get_or (set found e.node c) i limit) same)))
            ];
        adds = λ s h. elim (came_state s h) [
          | inl is ↦ inr record { edge = e; stands = Contains-push [] e; ends = sym (ap (λ (s : State). s.position) is); costs = sym (ap (λ (s : State). s.cost) is) }
          | inr before ↦ inl before
        ];
        cheaper = λ s h. elim (came_state s h) [
          | inl is ↦ inr (subst (λ (s : State). s.cost < get_or found s.position limit) is under)
          | inr before ↦ inl before
        ];
        apart = λ before. ready_apart ready_then;
        changes = λ v. elim (written limit found e.node c v within) [
          | inl p ↦ inr (rw p.1 (rw p.0 (Contains-map state_of new.entries (e.node, c) w.1.has)))
          | inr q ↦ inl q
        ];
        spent = omega (arith, under, longer w.0 w.1, sum_by-set (λ n. n) found e.node c limit within, length-map old.entries state_of, length-map new.entries state_of);
      }

-- the edges of a node lead to nodes
pub row_within : {n : ℕ} (g : Graph) (i : ℕ) (row : Vec Edge Global) → IsWithin (length g) g → n ≡ length g → slice_get g i ≡ Some row → All (λ (e : Edge). e.node < n) row.items
row_within {n} g i row inside long at =
    rw long (All-contains (λ (r : Vec Edge Global). All (λ (e : Edge). e.node < length g) r.items) g row inside (i, slice_get_within g i row at, get_or_from_slice_get g i row row at))
