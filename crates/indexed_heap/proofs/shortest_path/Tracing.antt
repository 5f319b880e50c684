-- What a search notes: from each node with a cost found, the table leads back over nodes that cost no more than the last one that came out.
use Rattle.dary_heap.proofs.Common.{◌≡◌, ℕ, ◌+◌, ◌<◌, ◌≤◌, inl, inr, List, [], ◌∷◌, ◌++◌, length, Contains, arith, refl, sym, ap, ◌∙◌, subst, get_or, get_or-set_same, get_or-set_other, set, length-set, replicate, length-replicate, Some, slice_get, Vec, Global, Graph, cases_eq}
use Rattle.dary_heap.proofs.Common.{Contains-append_left, Contains-append_right, Contains-push, IsSameBag, IsPermutation-sym, Relaxes}
use Rattle.dary_heap.specs.declared.shortest_path.State.{State}
use Rattle.dary_heap.proofs.Bags.{Contains-cases, came_first, came_later, holds_none}
use Rattle.dary_heap.proofs.Order.{slice_get-set_other, slice_get-set_same}
use Rattle.dary_heap.proofs.shortest_path.Searching.{IsSearch, alike, taken}
use Rattle.dary_heap.specs.declared.shortest_path.Edge.{Edge}
use Rattle.std.proofs.Common.{reverse}
use Rattle.std.proofs.lemmas.List.{reverse-append}
use Rattle.indexed_heap.proofs.shortest_path.Ways.{named_stays, way_more, way_self}
use Rattle.indexed_heap.specs.Lowering.{IsKept, IsNoted, Notes}
use Rattle.indexed_heap.specs.Ways.{AllLeadBack, IsWayOf, LeadsBack}

-- ---- edges that are examined one after another

module _ {limit node cost : ℕ} where
  pub notes_none : {found before : List ℕ} → Notes limit node cost [] found before found before
  notes_none = record { same = refl; changes = λ v. inl record { cost = refl; node = refl } }

  -- an edge that leads to nothing cheaper
  pub notes_kept : {found before : List ℕ} (e : Edge) → Notes limit node cost (e ∷ []) found before found before
  notes_kept e = record { same = refl; changes = λ v. inl record { cost = refl; node = refl } }

  -- an edge that leads to something cheaper
  pub notes_lower : (e : Edge) (found before : List ℕ) → e.node < length found → length before ≡ length found → cost + e.cost < get_or found e.node limit →
      Notes limit node cost (e ∷ []) found before (set found e.node (cost + e.cost)) (set before e.node node)
  notes_lower e found before within long under = record {
    same = length-set before e.node node;
    changes = λ v. elim (cases_eq v e.node) [
      | inl is ↦ inr record {
        edge = e;
        stands = Contains-push [] e;
        ends = is;
        falls_to = rw is (get_or-set_same found e.node (cost + e.cost) limit within);
        falls = rw is under;
        noted = rw is (slice_get-set_same before e.node node (omega (arith, within, long)));
      }
      | inr ne ↦ inl record { cost = get_or-set_other found e.node v (cost + e.cost) limit ne; node = slice_get-set_other before e.node v node ne }
    ];
  }

  -- edges, and then more edges
  pub notes_more : {edges more : List Edge} {found mid lower before between after : List ℕ} → Notes limit node cost edges found before mid between → Notes limit node cost more mid between lower after →
      Notes limit node cost (edges ++ more) found before lower after
  notes_more {edges} {more} a b = record {
    same = b.same ∙ a.same;
    changes = λ v. elim (b.changes v) [
      | inl k ↦ elim (a.changes v) [
        | inl j ↦ inl record { cost = k.cost ∙ j.cost; node = k.node ∙ j.node }
        | inr n ↦ inr record { edge = n.edge; stands = Contains-append_left edges more n.edge n.stands; ends = n.ends; falls_to = k.cost ∙ n.falls_to; falls = n.falls; noted = k.node ∙ n.noted }
      ]
      | inr n ↦ inr record {
        edge = n.edge;
        stands = Contains-append_right edges more n.edge n.stands;
        ends = n.ends;
        falls_to = n.falls_to;
        falls = elim (a.changes v) [ inl j ↦ omega (arith, n.falls, j.cost) | inr m ↦ omega (arith, n.falls, m.falls_to, m.falls) ];
        noted = n.noted;
      }
    ];
  }

-- ---- the search

module _ (limit : ℕ) (g : Graph) (start : ℕ) where
  -- from v on, the table names nodes that cost at most so much
  pub record IsTrace (level : ℕ) (found before : List ℕ) (v : ℕ) : Type 0 where
    pub back : LeadsBack g start v (get_or found v limit) before
    pub early : (u : ℕ) → Contains back.nodes u → get_or found u limit ≤ level

  -- so it is at each node with a cost found, and no state that waits costs less
  pub record IsTraced (found before : List ℕ) (waiting : List State) : Type 0 where
    pub long : length before ≡ length found
    pub level : ℕ
    pub low : (s : State) → Contains waiting s → level ≤ s.cost
    pub traces : (v : ℕ) → get_or found v limit < limit → IsTrace level found before v

-- the start alone has a cost found
pub traced_begins : {limit : ℕ} {g : Graph} {start n : ℕ} {nothing before : List ℕ} (waiting : List State) → start < n → nothing ≡ replicate n limit → length before ≡ n →
    IsTraced limit g start (set nothing start 0) before waiting
traced_begins {limit} {g} {start} {n} {nothing} {before} waiting near all long =
    let found = set nothing start 0 in
    let many : length found ≡ n = length-set nothing start 0 ∙ ap length all ∙ length-replicate n limit in
    let here : get_or found start limit ≡ 0 = get_or-set_same nothing start 0 limit (omega (arith, many, length-set nothing start 0)) in
    record {
      long = long ∙ sym many;
      level = 0;
      low = λ s h. omega arith;
      traces = λ v some. elim (cases_eq v start) [
        | inl is ↦ rw is record { back = record { nodes = []; named = refl; way = rw here (way_self start) }; early = λ u in'. absurd (holds_none u in') }
        | inr ne ↦ absurd (omega (arith, get_or-set_other nothing start v 0 limit ne, ap (λ (xs : List ℕ). get_or xs v limit) all, alike n v limit))
      ];
    }

module _ {limit : ℕ} {g : Graph} {start : ℕ} {found before : List ℕ} where
  pub traced_all : {waiting : List State} → IsTraced limit g start found before waiting → AllLeadBack limit g start found before
  traced_all T v some = (T.traces v some).back

  module _ {goal : ℕ} {waiting : List State} {s : State} {rest : List State} (S : IsSearch limit g start goal found waiting) (T : IsTraced limit g start found before waiting)
      (bag : IsSameBag waiting (s ∷ rest)) (same : get_or found s.position limit ≡ s.cost) where
    here : IsTrace limit g start T.level found before s.position
    here = T.traces s.position (omega (arith, same, (taken S bag).below))

    pub traced_goal : s.position ≡ goal → LeadsBack g start goal s.cost before
    traced_goal is = subst (λ (v : ℕ). LeadsBack g start v s.cost before) is (subst (λ (c : ℕ). LeadsBack g start s.position c before) same here.back)

    held : IsSameBag (s ∷ rest) waiting
    held = IsPermutation-sym waiting (s ∷ rest) bag

    rises : T.level ≤ s.cost
    rises = T.low s (came_first s rest waiting held)

    module _ {row : Vec Edge Global} {lower after : List ℕ} {grown : List State} (row_is : slice_get g s.position ≡ Some row) (low : (x : State) → Contains waiting x → s.cost ≤ x.cost)
        (R : Relaxes limit s.cost row.items found rest lower grown) (N : Notes limit s.position s.cost row.items found before lower after) where
      -- what costs no more than the state stays
      keeps : (u : ℕ) → get_or found u limit ≤ s.cost → IsKept limit u found before lower after
      keeps u under = elim (N.changes u) [
        | inl k ↦ k
        | inr n ↦ absurd (omega (arith, n.falls, under))
      ]

      keeps_early : (v : ℕ) (t : IsTrace limit g start T.level found before v) (u : ℕ) → Contains t.back.nodes u → IsKept limit u found before lower after
      keeps_early v t u in' = keeps u (omega (arith, t.early u in', rises))

      stays_early : (v : ℕ) (t : IsTrace limit g start T.level found before v) (u : ℕ) → Contains t.back.nodes u → get_or lower u limit ≤ s.cost
      stays_early v t u in' = omega (arith, (keeps_early v t u in').cost, t.early u in', rises)

      stays_at : (v : ℕ) (t : IsTrace limit g start T.level found before v) → IsKept limit v found before lower after → (u : ℕ) → Contains (v ∷ t.back.nodes) u → slice_get after u ≡ slice_get before u
      stays_at v t k u in' = elim (Contains-cases v t.back.nodes u in') [
        | inl is ↦ subst (λ (x : ℕ). slice_get after x ≡ slice_get before x) is k.node
        | inr later ↦ (keeps_early v t u later).node
      ]

      trace_kept : (v : ℕ) → IsTrace limit g start T.level found before v → IsKept limit v found before lower after → IsTrace limit g start s.cost lower after v
      trace_kept v t k = record {
        back = record {
          nodes = t.back.nodes;
          named = named_stays before start after v t.back.nodes (stays_at v t k) t.back.named;
          way = rw k.cost t.back.way;
        };
        early = stays_early v t;
      }

      trace_noted : (v : ℕ) → IsNoted limit s.position s.cost row.items v found lower after → IsTrace limit g start s.cost lower after v
      trace_noted v n =
          let nodes = here.back.nodes in
          let k = keeps s.position (omega (arith, same)) in
          let way = way_more n.edge here.back.way record { row = row; row_is = row_is; stands = n.stands } in
          let cost : get_or found s.position limit + n.edge.cost ≡ get_or lower v limit = omega (arith, same, n.falls_to) in
          let visits : reverse (s.position ∷ nodes) ++ n.edge.node ∷ [] ≡ reverse (v ∷ s.position ∷ nodes) =
          ap (λ (x : ℕ). reverse (s.position ∷ nodes) ++ x ∷ []) (sym n.ends) ∙ sym (reverse-append (v ∷ []) (s.position ∷ nodes)) in
          record {
            back = record {
              nodes = s.position ∷ nodes;
              named = (λ is. omega (arith, n.falls, S.begun, ap (λ (x : ℕ). get_or found x limit) is), n.noted, named_stays before start after s.position nodes (stays_at s.position here k) here.back.named);
              way = subst (λ (x : ℕ). IsWayOf g start x (reverse (v ∷ s.position ∷ nodes)) (get_or lower v limit)) (sym n.ends)
                  (subst (λ (l : List ℕ). IsWayOf g start n.edge.node l (get_or lower v limit)) visits (subst (λ (c : ℕ). IsWayOf g start n.edge.node (reverse (s.position ∷ nodes) ++ n.edge.node ∷ []) c) cost way));
            };
            early = λ u in'. elim (Contains-cases s.position nodes u in') [
              | inl is ↦ subst (λ (x : ℕ). get_or lower x limit ≤ s.cost) is (omega (arith, k.cost, same))
              | inr later ↦ stays_early s.position here u later
            ];
          }

      -- the edges of a node were examined
      pub traced_more : IsTraced limit g start lower after grown
      traced_more = record {
        long = N.same ∙ T.long ∙ sym R.same;
        level = s.cost;
        low = λ x h. elim (R.adds x h) [
          | inl old ↦ low x (came_later s rest waiting x held old)
          | inr along ↦ omega (arith, along.costs)
        ];
        traces = λ v some. elim (N.changes v) [
          | inl k ↦ trace_kept v (T.traces v (omega (arith, k.cost))) k
          | inr n ↦ trace_noted v n
        ];
      }
