-- What a search takes of comparisons: each node is taken once at most, since none that was taken waits again.
use Rattle.dary_heap.proofs.Common.{◌≡◌, ℕ, ◌+◌, ◌-◌, ◌*◌, ◌<◌, ◌≤◌, inl, inr, List, [], ◌∷◌, ◌++◌, length, Contains, arith, get_or, ap, ◌∙◌, refl, sym, subst, append-nil, length-append}
use Rattle.dary_heap.proofs.Common.{length-replicate, replicate, set, slice_get, Some, Vec, Global, Contains-push_cases, mul-le-mul_right, IsSameBag, RisesWithin, push_bound, pop_bound, Relaxes}
use Rattle.dary_heap.proofs.Common.{Graph, sum_by}
use Rattle.dary_heap.proofs.Bags.{holds_none}
use Rattle.dary_heap.proofs.Depth.{times_depth-later}
use Rattle.dary_heap.proofs.shortest_path.Examining.{AreOnce, distinct_node, once_begins, once_begins_nodes, once_few, once_more, once_more_nodes, once_part}
use Rattle.dary_heap.specs.declared.shortest_path.Edge.{Edge}
use Rattle.dary_heap.specs.declared.shortest_path.State.{State}
use Rattle.indexed_heap.specs.Entries.{Indexed}
use Rattle.indexed_heap.specs.Lowering.{IsReady, Waits, raises_bound, search_bound, states}
use Rattle.indexed_heap.proofs.shortest_path.Lowering.{begins_alone, states_same}
use Rattle.indexed_heap.proofs.shortest_path.Waiting.{all_few, distinct_few, taken_exact, taken_within}

-- raises one after another
pub raises_more : (D n raises : ℕ) {start mid after : ℕ} → RisesWithin start mid (raises_bound D n raises) → RisesWithin mid after (push_bound D n + 1) →
    RisesWithin start after (raises_bound D n (raises + 1))
raises_more D n raises a b = record { rises = omega (arith, a.rises, b.rises); within = omega (arith, a.within, b.within) }

-- the edges of some nodes were examined, each node's once, and no node was taken but those
pub record IsCounted (D start limit : ℕ) (g : Graph) (found : List ℕ) (heap : Indexed ℕ) : Type 0 where
  pub examined : List Edge
  pub once : AreOnce limit g found (states heap.entries) examined
  pub within : (v : ℕ) → Contains once.once.nodes v → v < length g
  pub counted : RisesWithin start heap.comparisons (raises_bound D (length g) (length examined + 1) + length once.once.nodes * pop_bound D (length g))

-- all edges of the graph
abbrev edges_in : Graph → ℕ
edges_in g = sum_by (λ row. length row.items) g

-- the start waits alone
pub counted_begins : {D limit : ℕ} {g : Graph} {start : ℕ} {nothing : List ℕ} (old new : Indexed ℕ) → start < length g → nothing ≡ replicate (length g) limit → old.entries ≡ [] →
    Waits start 0 old.entries new.entries → RisesWithin old.comparisons new.comparisons (push_bound D (length nothing) + 1) → IsCounted D old.comparisons limit g (set nothing start 0) new
counted_begins {D} {limit} {g} {start} {nothing} old new near all none w h =
    let long : length nothing ≡ length g = ap length all ∙ length-replicate (length g) limit in
    let within : start < length nothing = omega (arith, long) in
    let bag = begins_alone none w in
    let nodes = once_begins_nodes limit g nothing start within bag refl in
    record {
      examined = [];
      once = once_begins nothing start within bag refl;
      within = λ v in'. absurd (holds_none v (subst (λ (vs : List ℕ). Contains vs v) nodes in'));
      counted = rw nodes record { rises = h.rises; within = omega (arith, rw long at h.within) };
    }

-- no more edges were examined than there are, and no more nodes taken
search_within : (D n most_edges : ℕ) {start after : ℕ} (edges nodes : ℕ) → edges ≤ most_edges → nodes ≤ n → RisesWithin start after (raises_bound D n (edges + 1) + nodes * pop_bound D n) →
    RisesWithin start after (search_bound D n most_edges)
search_within D n most_edges edges nodes few_edges few_nodes h = record {
  rises = h.rises;
  within = omega (arith, h.within, mul-le-mul_right (push_bound D n + 1) few_edges, mul-le-mul_right (pop_bound D n) few_nodes);
}

-- no node waits any more
pub counted_ends : {D start limit : ℕ} {g : Graph} {found : List ℕ} {heap : Indexed ℕ} → IsCounted D start limit g found heap →
    RisesWithin start heap.comparisons (search_bound D (length g) (edges_in g))
counted_ends {D} {g = g} h =
    search_within D (length g) (edges_in g) (length h.examined) (length h.once.once.nodes) (once_few h.once.once) (distinct_few (length g) h.once.once.nodes h.once.once.distinct h.within) h.counted

module _ {D start limit : ℕ} {g : Graph} {found : List ℕ} {old : Indexed ℕ} (h : IsCounted D start limit g found old) (mid : Indexed ℕ) {e : ℕ × ℕ} (ready : IsReady limit found old)
    (bag : IsSameBag old.entries (e ∷ mid.entries)) (long : length found ≡ length g) (pop : RisesWithin old.comparisons mid.comparisons (pop_bound D (length old.entries))) where
  exact : get_or found e.0 limit ≡ e.1
  exact = taken_exact ready bag

  same_bag : IsSameBag (states old.entries) (states (e ∷ mid.entries))
  same_bag = states_same old.entries (e ∷ mid.entries) bag

  abbrev nodes : List ℕ
  nodes = h.once.once.nodes ++ e.0 ∷ []

  more_within : (v : ℕ) → Contains nodes v → v < length g
  more_within v in' = elim (Contains-push_cases h.once.once.nodes e.0 v in') [
    | inl before ↦ h.within v before
    | inr is ↦ subst (λ (v : ℕ). v < length g) is (rw long at (taken_within ready bag))
  ]

  -- the pop, since no more nodes wait than there are, and then raises
  raises_after : {after : ℕ} (edges : ℕ) → RisesWithin mid.comparisons after (raises_bound D (length found) edges) →
      RisesWithin start after (raises_bound D (length g) (length h.examined + edges + 1) + length nodes * pop_bound D (length g))
  raises_after edges raises =
      let first = rw long at raises in
      rw (length-append h.once.once.nodes (e.0 ∷ [])) record {
        rises = omega (arith, h.counted.rises, pop.rises, first.rises);
        within = omega (arith, h.counted.within, pop.within, first.within, times_depth-later D (length old.entries - 2) (length g - 2) (omega (arith, all_few ready, long)));
      }

  -- the search ends after so many edges of the node that was taken
  ends_after : {after : ℕ} (edges : ℕ) → length h.examined + edges ≤ edges_in g → RisesWithin mid.comparisons after (raises_bound D (length found) edges) →
      RisesWithin start after (search_bound D (length g) (edges_in g))
  ends_after edges few raises = search_within D (length g) (edges_in g) (length h.examined + edges) (length nodes) few
      (distinct_few (length g) nodes (distinct_node h.once same_bag exact) more_within) (raises_after edges raises)

  -- at the goal
  pub counted_goal : RisesWithin start mid.comparisons (search_bound D (length g) (edges_in g))
  counted_goal = ends_after 0 (omega (arith, once_few h.once.once)) record { rises = omega arith; within = omega arith }

  module _ (row : Vec Edge Global) (row_is : slice_get g e.0 ≡ Some row) where
    -- at a cost that is too large
    pub counted_failed : {after : ℕ} → RisesWithin mid.comparisons after (raises_bound D (length found) (length row.items)) → RisesWithin start after (search_bound D (length g) (edges_in g))
    counted_failed =
        ends_after (length row.items) (omega (arith, once_few (once_part h.once same_bag exact row row_is row.items [] (sym (append-nil row.items)) refl), length-append h.examined row.items))

    -- the search goes on after all edges of the node
    pub counted_more : ((x : State) → Contains (states old.entries) x → e.1 ≤ x.cost) → {lower : List ℕ} {new : Indexed ℕ} →
        Relaxes limit e.1 row.items found (states mid.entries) lower (states new.entries) → RisesWithin mid.comparisons new.comparisons (raises_bound D (length found) (length row.items)) →
        IsCounted D start limit g lower new
    counted_more low {new = new} R raises =
        let taken = once_more_nodes h.once same_bag exact row row_is low R refl in
        record {
          examined = h.examined ++ row.items;
          once = once_more h.once same_bag exact row row_is low R refl;
          within = λ v in'. more_within v (subst (λ (vs : List ℕ). Contains vs v) taken in');
          counted = rw (taken, length-append h.examined row.items) (raises_after (length row.items) raises);
        }
