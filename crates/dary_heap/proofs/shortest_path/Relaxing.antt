-- Edges that are examined one after another.
use Rattle.dary_heap.proofs.{◌≡◌, ◌⊎◌, ℕ, ◌+◌, ◌<◌, ◌≤◌, inl, inr, List, [], ◌∷◌, ◌++◌, length, Contains, arith, get_or, refl, sym, ap, ◌∙◌, subst, get_or-set_same, get_or-set_other, cases_eq}
use Rattle.dary_heap.proofs.{get_or_default, Contains-push, Contains-append_left, Contains-append_right, Contains-append_cases, length_permutation, sum_by-set, IsSameBag, state, IsAlong, Relaxes}
use Rattle.dary_heap.proofs.{Edge, State, set, length-set, came_first, came_later, came_cases, alone}
use Rattle.dary_heap.proofs.shortest_path.Apart.{apart_more}

-- what the code read as the cost found
pub found_is : (limit : ℕ) (found : List ℕ) (i x : ℕ) → i < length found → x ≡ get_or found i x → x ≡ get_or found i limit
found_is limit found i x within read = read ∙ get_or_default found i x limit within

-- a cost after one was written
pub written : (limit : ℕ) (found : List ℕ) (i c v : ℕ) → i < length found → (v ≡ i) × (get_or (set found i c) v limit ≡ c) ⊎ (get_or (set found i c) v limit ≡ get_or found v limit)
written limit found i c v within = elim (cases_eq v i) [
  | inl is ↦ inl (is, rw is (get_or-set_same found i c limit within))
  | inr ne ↦ inr (get_or-set_other found i v c limit ne)
]

IsAlong-among : {cost : ℕ} (edges all : List Edge) (s : State) → ((e : Edge) → Contains edges e → Contains all e) → IsAlong cost edges s → IsAlong cost all s
IsAlong-among edges all s among a = record { edge = a.edge; stands = among a.edge a.stands; ends = a.ends; costs = a.costs }

module _ {limit cost : ℕ} where
  module _ (e : Edge) (found : List ℕ) (waiting : List State) (below : cost + e.cost < limit) (within : e.node < length found) (x : ℕ) (read : x ≡ get_or found e.node x) where
    -- the edge leads to nothing cheaper
    pub relaxes_kept : x ≤ cost + e.cost → Relaxes limit cost (e ∷ []) found waiting found waiting
    relaxes_kept under = record {
      same = refl;
      falls = λ v. omega arith;
      sums = λ d h. subst (λ (d : Edge). cost + d.cost < limit) (alone e d h) below;
      ends = λ d h. subst (λ (d : Edge). get_or found d.node limit ≤ cost + d.cost) (alone e d h) (omega (arith, found_is limit found e.node x within read));
      keeps = λ s h. inl h;
      adds = λ s h. inl h;
      cheaper = λ s h. inl h;
      apart = λ h. h;
      changes = λ v. inl refl;
      spent = omega arith;
    }

    -- the edge leads to something cheaper
    pub relaxes_lower : {grown : List State} → cost + e.cost < x → IsSameBag (state (cost + e.cost) e.node ∷ waiting) grown →
        Relaxes limit cost (e ∷ []) found waiting (set found e.node (cost + e.cost)) grown
    relaxes_lower {grown} under bag =
        let c = cost + e.cost in
        let next = state c e.node in
        let known = found_is limit found e.node x within read in
        let falls : (v : ℕ) → get_or (set found e.node c) v limit ≤ get_or found v limit = λ v. elim (written limit found e.node c v within) [
          | inl p ↦ omega (arith, p.1, known, ap (λ i. get_or found i limit) p.0)
          | inr q ↦ omega arith
        ] in
        record {
          same = length-set found e.node c;
          falls = falls;
          sums = λ d h. subst (λ (d : Edge). cost + d.cost < limit) (alone e d h) below;
          ends = λ d h. subst (λ (d : Edge). get_or (set found e.node c) d.node limit ≤ cost + d.cost) (alone e d h) (omega (arith, get_or-set_same found e.node c limit within));
          keeps = λ s h. inl (came_later next waiting grown s bag h);
          adds = λ s h. elim (came_cases next waiting grown s bag h) [
            | inl is ↦ inr record { edge = e; stands = Contains-push [] e; ends = sym (ap (λ (s : State). s.position) is); costs = sym (ap (λ (s : State). s.cost) is) }
            | inr old ↦ inl old
          ];
          cheaper = λ s h. elim (came_cases next waiting grown s bag h) [
            | inl is ↦ inr (subst (λ (s : State). s.cost < get_or found s.position limit) is (omega (arith, known)))
            | inr old ↦ inl old
          ];
          apart = λ before. record {
            distinct = apart_more next waiting grown (λ t h same. omega (arith, known, before.above t h, ap (λ i. get_or found i limit) same)) before.distinct bag;
            above = λ s h. elim (came_cases next waiting grown s bag h) [
              | inl is ↦ subst (λ (s : State). get_or (set found e.node c) s.position limit ≤ s.cost) is (omega (arith, get_or-set_same found e.node c limit within))
              | inr old ↦ omega (arith, falls s.position, before.above s old)
            ];
          };
          changes = λ v. elim (written limit found e.node c v within) [
            | inl p ↦ inr (rw p.1 (rw p.0 (came_first next waiting grown bag)))
            | inr q ↦ inl q
          ];
          spent = omega (arith, found_is limit found e.node x within read, sum_by-set (λ n. n) found e.node c limit within, length_permutation (next ∷ waiting) grown bag);
        }

  -- edges, and then more edges
  pub relaxes_more : {edges more : List Edge} {found mid lower : List ℕ} {waiting between grown : List State} → Relaxes limit cost edges found waiting mid between →
      Relaxes limit cost more mid between lower grown → Relaxes limit cost (edges ++ more) found waiting lower grown
  relaxes_more {edges} {more} {mid = mid} a b = record {
    same = b.same ∙ a.same;
    falls = λ v. omega (arith, a.falls v, b.falls v);
    sums = λ e h. elim (Contains-append_cases edges more e h) [ inl c ↦ a.sums e c | inr c ↦ b.sums e c ];
    ends = λ e h. elim (Contains-append_cases edges more e h) [ inl c ↦ omega (arith, a.ends e c, b.falls e.node) | inr c ↦ b.ends e c ];
    keeps = λ s h. elim (a.keeps s h) [ inl c ↦ b.keeps s c | inr less ↦ inr (omega (arith, less, b.falls s.position)) ];
    adds = λ s h. elim (b.adds s h) [
      | inl c ↦ elim (a.adds s c) [
        | inl old ↦ inl old
        | inr along ↦ inr (IsAlong-among edges (edges ++ more) s (Contains-append_left edges more) along)
      ]
      | inr along ↦ inr (IsAlong-among more (edges ++ more) s (Contains-append_right edges more) along)
    ];
    cheaper = λ s h. elim (b.cheaper s h) [ inl c ↦ a.cheaper s c | inr lower ↦ inr (omega (arith, lower, a.falls s.position)) ];
    apart = λ before. b.apart (a.apart before);
    changes = λ v. elim (b.changes v) [
      | inl e ↦ elim (a.changes v) [
        | inl d ↦ inl (e ∙ d)
        | inr c ↦ elim (b.keeps (state (get_or mid v limit) v) c) [ inl still ↦ inr (rw e still) | inr less ↦ absurd (omega (arith, less, e)) ]
      ]
      | inr c ↦ inr c
    ];
    spent = omega (arith, a.spent, b.spent);
  }
