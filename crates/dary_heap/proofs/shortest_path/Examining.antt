-- What a search examined and pushed so far. No node's edges are examined twice, since states come out in the order of their cost and no state is pushed twice.
use Rattle.dary_heap.proofs.Common.{◌≡◌, ℕ, zero, suc, ◌+◌, ◌-◌, ◌*◌, ◌<◌, ◌≤◌, false, nat_eq, inl, inr, List, [], ◌∷◌, ◌++◌, length, map, take, drop, Contains, arith, get_or, get_or-set_same}
use Rattle.dary_heap.proofs.Common.{get_or-set_other, refl, sym, ap, ◌∙◌, subst, append_assoc, append-nil, length-append, length_permutation, Some, slice_get, Vec, mul-le-mul_left, mul-le-mul_right, mul-le-mul}
use Rattle.dary_heap.proofs.Common.{true≢false, cases_lt, get_or_past, length-take-le, take-append-drop, All-contains_itself, All-weaker, recursion_from_All, IsPermutation-sym}
use Rattle.dary_heap.proofs.Common.{IsPermutation-to_front, sum_by-set, IsDistinct-IsPermutation, IsDistinct-cons, IsDistinct-head, IsDistinct-tail, nat_eq_equiv, unsigned_Decides, Global}
use Rattle.dary_heap.proofs.Common.{AllByRecursion, IsDistinct, sum_by, IsSameBag, RisesWithin, push_bound, pop_bound, search_bound, Contents, Pushes, AreExaminedOnce, edges_of, all_edges_of, state, Relaxes}
use Rattle.dary_heap.proofs.Common.{Graph, Edge, State, set, ne_eqb, Contains-push_cases, sum_by-cons, sum-map, AreExamined, AreApart}
use Rattle.dary_heap.proofs.{came_alone, came_first, came_later, holds_none, depth-later, times_depth-later}
use Rattle.dary_heap.proofs.shortest_path.Apart.{apart_more, apart_less, not_twice}

-- the edges of some nodes were examined, each node's once: no state that waits can have them examined again
pub record AreOnce (limit : ℕ) (g : Graph) (found : List ℕ) (waiting : List State) (examined : List Edge) : Type 0 where
  pub once : AreExaminedOnce g examined
  pub all : once.left ≡ []
  pub apart : AreApart limit found waiting
  -- what the state that was taken last cost
  pub last : ℕ
  pub later : (s : State) → Contains waiting s → last ≤ s.cost
  pub earlier : (v : ℕ) → Contains once.nodes v → get_or found v limit ≤ last
  pub dearer : (s : State) → Contains waiting s → Contains once.nodes s.position → get_or found s.position limit < s.cost

distinct_more : (nodes : List ℕ) (u : ℕ) → IsDistinct nat_eq nodes → (Contains nodes u → ⊥) → IsDistinct nat_eq (nodes ++ u ∷ [])
distinct_more nodes u distinct new =
    let others = recursion_from_All (λ v. nat_eq u v ≡ false) nodes
    (All-weaker (Contains nodes) (λ v. nat_eq u v ≡ false) (λ v in'. ne_eqb u v (λ same. new (subst (Contains nodes) (sym same) in'))) nodes (All-contains_itself nodes)) in
    IsDistinct-IsPermutation nat_eq nat_eq_equiv.symm (u ∷ nodes) (nodes ++ u ∷ []) (IsPermutation-sym (nodes ++ u ∷ []) (u ∷ nodes) (IsPermutation-to_front nodes u))
    (IsDistinct-cons nat_eq u nodes others distinct)

all_edges_more : (g : Graph) (nodes : List ℕ) (u : ℕ) → all_edges_of g (nodes ++ u ∷ []) ≡ all_edges_of g nodes ++ edges_of g u
all_edges_more g [] u = append-nil (edges_of g u)
all_edges_more g (v ∷ nodes) u = ap (λ es. edges_of g v ++ es) (all_edges_more g nodes u) ∙ sym (append_assoc (edges_of g v) (all_edges_of g nodes) (edges_of g u))

edges_at : (g : Graph) (u : ℕ) (row : Vec Edge Global) → slice_get g u ≡ Some row → edges_of g u ≡ row.items
edges_at [] u row at = absurd (cc)
edges_at (r ∷ rows) zero row at = let is : r ≡ row = cc in ap (λ (v : Vec Edge Global). v.items) is
edges_at (r ∷ rows) (suc u) row at = edges_at rows u row at

-- where nothing was examined, nothing was examined twice
pub none_examined : (g : Graph) (examined : List Edge) → examined ≡ [] → AreExaminedOnce g examined
unfolding IsDistinct
none_examined g examined none = record { nodes = []; distinct = tt; left = []; in_turn = sym (append-nil examined ∙ none) }

module _ {limit : ℕ} {g : Graph} where
  -- nothing is examined, and the start alone waits
  pub once_begins : (found : List ℕ) {waiting : List State} {examined : List Edge} (start : ℕ) → start < length found → IsSameBag (state 0 start ∷ []) waiting → examined ≡ [] →
      AreOnce limit g (set found start 0) waiting examined
  unfolding IsDistinct none_examined
  once_begins found {waiting} {examined} start within bag none = record {
    once = none_examined g examined none;
    all = refl;
    apart = record {
      distinct = apart_more (state 0 start) [] waiting (λ t in'. absurd (holds_none t in')) tt bag;
      above = λ s in'. subst (λ (s : State). get_or (set found start 0) s.position limit ≤ s.cost) (came_alone (state 0 start) waiting s bag in')
          (omega (arith, get_or-set_same found start 0 limit within));
    };
    last = 0;
    later = λ s in'. omega arith;
    earlier = λ v in'. absurd (holds_none v in');
    dearer = λ s in' node. absurd (holds_none s.position node);
  }

  module _ {found : List ℕ} {waiting rest : List State} {examined : List Edge} (h : AreOnce limit g found waiting examined) {s : State} (bag : IsSameBag waiting (s ∷ rest)) where
    held : IsSameBag (s ∷ rest) waiting
    held = IsPermutation-sym waiting (s ∷ rest) bag

    left : (t : State) → Contains rest t → Contains waiting t
    left t in' = came_later s rest waiting t held in'

    apart_left : AreApart limit found rest
    apart_left = record { distinct = apart_less s waiting rest h.apart.distinct bag; above = λ t in'. h.apart.above t (left t in') }

    -- a state is taken and nothing is examined
    pub once_skips : AreOnce limit g found rest examined
    once_skips = record {
      once = h.once;
      all = h.all;
      apart = apart_left;
      last = h.last;
      later = λ t in'. h.later t (left t in');
      earlier = h.earlier;
      dearer = λ t in' node. h.dearer t (left t in') node;
    }

    -- a state is taken that isn't dearer than what was found, so its node wasn't examined yet
    module _ (found_here : get_or found s.position limit ≡ s.cost) where
      there : Contains waiting s
      there = came_first s rest waiting held

      pub distinct_node : IsDistinct nat_eq (h.once.nodes ++ s.position ∷ [])
      distinct_node = distinct_more h.once.nodes s.position h.once.distinct (λ in'. omega (arith, found_here, h.dearer s there in'))

      module _ (row : Vec Edge Global) (row_is : slice_get g s.position ≡ Some row) where
        next_in_turn : all_edges_of g (h.once.nodes ++ s.position ∷ []) ≡ examined ++ row.items
        next_in_turn = cc (all_edges_more g h.once.nodes s.position, h.once.in_turn, h.all, append-nil examined, edges_at g s.position row row_is)

        -- the first of its node's edges were examined
        pub once_part : {after : List Edge} (these others : List Edge) → row.items ≡ these ++ others → after ≡ examined ++ these → AreExaminedOnce g after
        once_part these others first so_far = record {
          nodes = h.once.nodes ++ s.position ∷ [];
          distinct = distinct_node;
          left = others;
          in_turn = cc (next_in_turn, first, so_far, append_assoc examined these others);
        }

        module _ (low : (x : State) → Contains waiting x → s.cost ≤ x.cost) {lower : List ℕ} {grown : List State} (R : Relaxes limit s.cost row.items found rest lower grown) where
          -- what was found at no more than the state costs is final
          final : (v : ℕ) → get_or found v limit ≤ s.cost → get_or lower v limit ≡ get_or found v limit
          final v under = elim (R.changes v) [
            | inl same ↦ same
            | inr in' ↦ elim (R.adds (state (get_or lower v limit) v) in') [
              | inl old ↦ omega (arith, apart_left.above (state (get_or lower v limit) v) old, R.falls v)
              | inr along ↦ omega (arith, along.costs, under, R.falls v)
            ]
          ]

          low_of : (v : ℕ) → Contains (h.once.nodes ++ s.position ∷ []) v → get_or found v limit ≤ s.cost
          low_of v in' = elim (Contains-push_cases h.once.nodes s.position v in') [
            | inl before ↦ omega (arith, h.earlier v before, h.later s there)
            | inr same ↦ omega (arith, found_here, ap (λ (i : ℕ). get_or found i limit) same)
          ]

          later_of : (t : State) → Contains grown t → s.cost ≤ t.cost
          later_of t in' = elim (R.adds t in') [
            | inl old ↦ low t (left t old)
            | inr along ↦ omega (arith, along.costs)
          ]

          -- a state that waited beside it
          dearer_left : (t : State) → Contains rest t → Contains (h.once.nodes ++ s.position ∷ []) t.position → get_or found t.position limit < t.cost
          dearer_left t old node = elim (Contains-push_cases h.once.nodes s.position t.position node) [
            | inl before ↦ h.dearer t (left t old) before
            | inr same ↦ elim (cases_lt s.cost t.cost) [
              | inl less ↦ omega (arith, less, found_here, ap (λ (i : ℕ). get_or found i limit) same)
              | inr le ↦
                  let cost : t.cost ≡ s.cost = omega (arith, low t (left t old)) in
                  absurd (not_twice s waiting rest h.apart.distinct bag (subst (Contains rest) (ap (λ (c : ℕ). state c t.position) cost ∙ ap (state s.cost) (sym same)) old))
            ]
          ]

          -- all of its node's edges were examined
          pub once_more : {after : List Edge} → after ≡ examined ++ row.items → AreOnce limit g lower grown after
          unfolding once_part
          once_more {after} all = record {
            once = once_part row.items [] (sym (append-nil row.items)) all;
            all = refl;
            apart = R.apart apart_left;
            last = s.cost;
            later = later_of;
            earlier = λ v in'. omega (arith, final v (low_of v in'), low_of v in');
            dearer = λ t in' node.
                let under = low_of t.position node in
                let kept = final t.position under in
                elim (R.cheaper t in') [
                  | inl old ↦ omega (arith, kept, dearer_left t old node)
                  | inr lower ↦ absurd (omega (arith, lower, under, later_of t in'))
                ];
          }

          pub once_more_nodes : {after : List Edge} (all : after ≡ examined ++ row.items) → (once_more all).once.nodes ≡ h.once.nodes ++ s.position ∷ []
          unfolding once_more once_part
          once_more_nodes all = refl

-- nodes whose edges were examined: none as the search begins
pub once_begins_nodes : (limit : ℕ) (g : Graph) (found : List ℕ) {waiting : List State} {examined : List Edge} (start : ℕ) (within : start < length found)
    (bag : IsSameBag (state 0 start ∷ []) waiting) (none : examined ≡ []) → (once_begins {limit = limit} {g = g} found start within bag none).once.nodes ≡ []
unfolding once_begins none_examined
once_begins_nodes limit g found start within bag none = refl

-- how many states were taken so far, and what the pushes and pops cost, where so many edges were examined
pub record IsCharged (D old : ℕ) (heap : Contents State) (examined : ℕ) : Type 0 where
  pub pops : ℕ
  pub few : pops + length heap.items ≤ examined + 1
  pub counted : RisesWithin old heap.comparisons ((pops + length heap.items) * push_bound D examined + pops * pop_bound D (examined + 1))

pub charged_begins : {D : ℕ} (old new : Contents State) → old.items ≡ [] → length new.items ≡ length old.items + 1 → RisesWithin old.comparisons new.comparisons (push_bound D (length old.items)) →
    IsCharged D old.comparisons new 0
charged_begins {D} old new none one push =
    let single : length new.items ≡ 1 = omega (arith, one, ap length none) in
    record { pops = 0; few = omega (arith, single); counted = rw single (record { rises = push.rises; within = omega (arith, rw none at push.within) }) }

pub charged_pop : {D start examined : ℕ} {old new : Contents State} {s : State} → IsCharged D start old examined → IsSameBag old.items (s ∷ new.items) →
    RisesWithin old.comparisons new.comparisons (pop_bound D (length old.items)) → IsCharged D start new examined
charged_pop {D} {start} {examined} {old} {new} h bag pop =
    let one : length old.items ≡ length new.items + 1 = omega (arith, length_permutation _ _ bag) in
    let before = rw one at h.counted in
    let last = rw one at pop in
    record {
      pops = h.pops + 1;
      few = omega (arith, h.few, one);
      counted = record {
        rises = omega (arith, before.rises, last.rises);
        within = omega (arith, before.within, last.within, times_depth-later D (length new.items + 1 - 2) (examined + 1 - 2) (omega (arith, h.few, one)));
      };
    }

pub charged_push : {D start : ℕ} {edges before after : List Edge} {old new : Contents State} → IsCharged D start old (length before) → AreExamined D edges before after old new →
    IsCharged D start new (length after)
charged_push {D} {before = before} {after} {old} {new} h so_far =
    let push = so_far.pushes in
    let most = length before + length so_far.these in
    let came = length new.items - length old.items in
    let all : length new.items ≡ length old.items + came = omega (arith, push.more) in
    let long : length after ≡ most = ap length so_far.examined ∙ length-append before so_far.these in
    rw long record {
      pops = h.pops;
      few = omega (arith, h.few, push.few);
      counted = rw all record {
        rises = omega (arith, h.counted.rises, push.counted.rises);
        within = omega (
          arith,
          h.counted.within,
          push.counted.within,
          mul-le-mul_left (h.pops + length old.items) (depth-later D (length before) most (omega arith)),
          mul-le-mul_left came (depth-later D (length new.items - 1) most (omega (arith, h.few, push.few))),
          mul-le-mul_left h.pops (times_depth-later D (length before + 1 - 2) (most + 1 - 2) (omega arith)),
        );
      };
    }

pub charged_ends : {D start examined : ℕ} {heap : Contents State} → IsCharged D start heap examined →
    RisesWithin start heap.comparisons (search_bound D examined)
charged_ends {D} {start} {examined} {heap} h =
    let some : h.pops ≤ examined + 1 = omega (arith, h.few) in
    record {
      rises = h.counted.rises;
      within = omega (arith, h.counted.within, mul-le-mul_right (push_bound D examined) h.few, mul-le-mul_right (pop_bound D (examined + 1)) some);
    }

-- a search that examines more edges may compare more often
pub search_more : (D : ℕ) {start after few most : ℕ} → few ≤ most → RisesWithin start after (search_bound D few) → RisesWithin start after (search_bound D most)
search_more D {few = few} {most} h charged = record {
  rises = charged.rises;
  within = omega (
    arith,
    charged.within,
    mul-le-mul {n₁ = few + 1} {m₁ = push_bound D few + pop_bound D (few + 1)} {n₂ = most + 1} {m₂ = push_bound D most + pop_bound D (most + 1)} (omega (arith, h))
        (omega (arith, depth-later D few most h, times_depth-later D (few + 1 - 2) (most + 1 - 2) (omega (arith, h)))),
  );
}

-- pushes after pushes
pub pushes_more : {D m n : ℕ} {old mid new : Contents State} → Pushes D m old mid → Pushes D n mid new → Pushes D (m + n) old new
pushes_more {D} {old = old} {mid} {new} a b =
    let first = length mid.items - length old.items in
    let both : length new.items - length old.items ≡ first + (length new.items - length mid.items) = omega (arith, a.more, b.more) in
    record {
      more = omega (arith, a.more, b.more);
      few = omega (arith, a.few, b.few);
      counted = rw both record {
        rises = omega (arith, a.counted.rises, b.counted.rises);
        within = omega (arith, a.counted.within, b.counted.within, mul-le-mul_left first (depth-later D (length mid.items - 1) (length new.items - 1) (omega (arith, b.more))));
      };
    }

-- a number that no node of the list reads may be 0
same_sum : (ns : List ℕ) (u : ℕ) (nodes : List ℕ) → AllByRecursion (λ v. nat_eq u v ≡ false) nodes → sum_by (λ v. get_or (set ns u 0) v 0) nodes ≡ sum_by (λ v. get_or ns v 0) nodes
same_sum ns u [] h = refl
same_sum ns u (v ∷ nodes) h =
    let ne : v ≡ u → ⊥ = λ same. true≢false (sym ((unsigned_Decides u v).1 (sym same)) ∙ h.0) in
    omega (arith, get_or-set_other ns u v 0 0 ne, same_sum ns u nodes h.1, sum_by-cons (λ v. get_or (set ns u 0) v 0) v nodes, sum_by-cons (λ v. get_or ns v 0) v nodes)

some_sum : (nodes ns : List ℕ) → IsDistinct nat_eq nodes → sum_by (λ v. get_or ns v 0) nodes ≤ sum_by (λ n. n) ns
some_sum [] ns distinct = omega arith
some_sum (u ∷ nodes) ns distinct =
    let others = IsDistinct-tail nat_eq u nodes distinct in
    let first : sum_by (λ v. get_or ns v 0) (u ∷ nodes) ≡ get_or ns u 0 + sum_by (λ v. get_or ns v 0) nodes = sum_by-cons (λ v. get_or ns v 0) u nodes in
    elim (cases_lt u (length ns)) [
      | inl within ↦ omega (arith, some_sum nodes (set ns u 0) others, same_sum ns u nodes (IsDistinct-head nat_eq u nodes distinct), sum_by-set (λ n. n) ns u 0 0 within)
      | inr past ↦ omega (arith, some_sum nodes ns others, get_or_past ns u 0 past)
    ]

edges_long : (g : Graph) (u : ℕ) → length (edges_of g u) ≡ get_or (map (λ row. length row.items) g) u 0
edges_long [] u = refl
edges_long (row ∷ rows) zero = refl
edges_long (row ∷ rows) (suc u) = edges_long rows u

all_edges_long : (g : Graph) (nodes : List ℕ) → length (all_edges_of g nodes) ≡ sum_by (λ v. get_or (map (λ row. length row.items) g) v 0) nodes
all_edges_long g [] = refl
all_edges_long g (u ∷ nodes) =
    omega (arith, length-append (edges_of g u) (all_edges_of g nodes), edges_long g u, all_edges_long g nodes, sum_by-cons (λ v. get_or (map (λ row. length row.items) g) v 0) u nodes)

-- the edges of nodes of which no two are the same are no more than all edges
pub once_few : {g : Graph} {examined : List Edge} → AreExaminedOnce g examined → length examined ≤ sum_by (λ row. length row.items) g
once_few {g} {examined} once =
    let all : length examined + length once.left ≡ length (all_edges_of g once.nodes) = sym (ap length once.in_turn ∙ length-append examined once.left) in
    omega (arith, all, all_edges_long g once.nodes, some_sum once.nodes (map (λ row. length row.items) g) once.distinct, sum-map (λ row. length row.items) g)

-- an edge more, and what was examined of some edges
pub examined_more : (start old new these : List Edge) (e : Edge) → new ≡ old ++ e ∷ [] → old ≡ start ++ these → new ≡ start ++ (these ++ e ∷ [])
examined_more start old new these e more so_far = more ∙ (ap (λ (es : List Edge). es ++ e ∷ []) so_far ∙ append_assoc start these (e ∷ []))

pub examined_part : {D : ℕ} (edges before after : List Edge) {old new : Contents State} (n : ℕ) → n ≤ length edges → after ≡ before ++ take n edges → Pushes D n old new → AreExamined D edges before after old new
examined_part {D} edges before after {old} {new} n within so_far pushes = record {
  these = take n edges;
  others = drop n edges;
  first = sym (take-append-drop n edges);
  examined = so_far;
  pushes = subst (λ (m : ℕ). Pushes D m old new) (sym (length-take-le n edges within)) pushes;
}
