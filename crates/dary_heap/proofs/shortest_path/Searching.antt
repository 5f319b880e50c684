-- Walks, edge by edge; what holds of a search each time that a state is about to be taken, and what follows from it.
use Rattle.dary_heap.proofs.{◌≡◌, ℕ, ◌+◌, ◌<◌, List, [], ◌∷◌, ◌++◌, Contains, All, arith, refl, sym, subst, Some, slice_get, Vec, Global, All-contains, slice_get_within, get_or_from_slice_get}
use Rattle.dary_heap.proofs.{Graph, IsWithin, HasEdge, IsWalk, cost_of, Edge, ◌≢◌, ◌⊎◌, ◌≤◌, min, inl, inr, length, get_or, get_or-set_same, get_or-set_other, ap, ◌∙◌, cases_lt, cases_eq}
use Rattle.dary_heap.proofs.{get_or_past, IsPermutation-sym, slice_get_read, IsSameBag, state, Relaxes, State, get_or-replicate, length-replicate, HasTooLarge, IsLeastCost, IsUnreached, HasCritical}
use Rattle.dary_heap.proofs.{NoneCriticalBelow, holds_none, came_alone, came_first, came_later, came_cases, set, length-set, replicate}
use Rattle.dary_heap.proofs.shortest_path.Relaxing.{found_is}

-- some walk from u to v costs c
pub record Reaches (g : Graph) (u v c : ℕ) : Type 0 where
  pub walk : List Edge
  pub leads : IsWalk g u walk v
  pub costs : cost_of walk ≡ c

pub walk_more : (g : Graph) (u : ℕ) (walk : List Edge) (v : ℕ) (e : Edge) → IsWalk g u walk v → HasEdge g v e → IsWalk g u (walk ++ e ∷ []) e.node
walk_more g u [] v e h has = (subst (λ (w : ℕ). HasEdge g w e) (sym h) has, refl)
walk_more g u (d ∷ walk) v e h has = (h.0, walk_more g d.node walk v e h.1 has)

pub cost_more : (walk : List Edge) (e : Edge) → cost_of (walk ++ e ∷ []) ≡ cost_of walk + e.cost
cost_more [] e = omega arith
cost_more (d ∷ walk) e = omega (arith, cost_more walk e)

pub reaches_self : (g : Graph) (u : ℕ) → Reaches g u u 0
reaches_self g u = record { walk = []; leads = refl; costs = refl }

pub reaches_more : (g : Graph) (u v c : ℕ) (e : Edge) → Reaches g u v c → HasEdge g v e → Reaches g u e.node (c + e.cost)
reaches_more g u v c e h has = record {
  walk = h.walk ++ e ∷ [];
  leads = walk_more g u h.walk v e h.leads has;
  costs = omega (arith, cost_more h.walk e, h.costs);
}

-- an edge that leaves a node stands in its row
pub in_row : (g : Graph) (u : ℕ) (row : Vec Edge Global) (e : Edge) → slice_get g u ≡ Some row → HasEdge g u e → Contains row.items e
in_row g u row e is has = let same : has.row ≡ row = (cc (has.row_is)) in subst (λ (r : Vec Edge Global). Contains r.items e) same has.stands

-- it leads to a node of the graph
pub leads_within : (g : Graph) (n u : ℕ) (e : Edge) → IsWithin n g → HasEdge g u e → e.node < n
leads_within g n u e h has =
    let row : Contains g has.row = (u, slice_get_within g u has.row has.row_is, get_or_from_slice_get g u has.row has.row has.row_is) in
    All-contains (λ (e : Edge). e.node < n) has.row.items e (All-contains (λ (r : Vec Edge Global). All (λ (e : Edge). e.node < n) r.items) g has.row h row) has.stands

module _ (limit : ℕ) (g : Graph) (start goal : ℕ) where
  -- node u isn't the goal, and each of its edges was examined at the cost found for u
  pub record IsExamined (found : List ℕ) (u : ℕ) : Type 0 where
    pub other : u ≢ goal
    pub sums : (e : Edge) → HasEdge g u e → get_or found u limit + e.cost < limit
    pub ends : (e : Edge) → HasEdge g u e → get_or found e.node limit ≤ get_or found u limit + e.cost

  -- a state that waits has the cost of some walk to its node, at least the one found
  pub record IsWaiting (found : List ℕ) (s : State) : Type 0 where
    pub within : s.position < length found
    pub below : s.cost < limit
    pub above : get_or found s.position limit ≤ s.cost
    pub reached : Reaches g start s.position s.cost

  -- what holds each time that a state is about to be taken: found are the costs found so far, waiting the states in the heap
  pub record IsSearch (found : List ℕ) (waiting : List State) : Type 0 where
    pub long : length found ≡ length g
    pub positive : 0 < limit
    pub begun : get_or found start limit ≡ 0
    -- a cost found is that of some walk
    pub reached : (v : ℕ) → get_or found v limit < limit → Reaches g start v (get_or found v limit)
    pub waits : (s : State) → Contains waiting s → IsWaiting found s
    -- a node with a cost found waits with it, or was examined
    pub settled : (u : ℕ) → get_or found u limit < limit → Contains waiting (state (get_or found u limit) u) ⊎ IsExamined found u

-- a list of one number alone
pub alike : (n v a : ℕ) → get_or (replicate n a) v a ≡ a
alike n v a = elim (cases_lt v n) [
  | inl lt ↦ get_or-replicate n v a a lt
  | inr le ↦ get_or_past (replicate n a) v a (omega (arith, length-replicate n a))
]

-- the search as it begins: no cost is found, and then 0 for the start, whose state alone waits
pub search_begins : {limit : ℕ} {g : Graph} {start goal : ℕ} {nothing : List ℕ} {waiting : List State} (n : ℕ) → 0 < limit → n ≡ length g → start < n → nothing ≡ replicate n limit →
    IsSameBag (state 0 start ∷ []) waiting → IsSearch limit g start goal (set nothing start 0) waiting
search_begins {limit} {g} {start} {goal} {nothing} {waiting} n positive many near all bag =
    let found = set nothing start 0 in
    let long : length found ≡ n = length-set nothing start 0 ∙ ap length all ∙ length-replicate n limit in
    let here : get_or found start limit ≡ 0 = get_or-set_same nothing start 0 limit (omega (arith, long, length-set nothing start 0)) in
    let there = λ (v : ℕ) (ne : v ≢ start). get_or-set_other nothing start v 0 limit ne ∙ (ap (λ (xs : List ℕ). get_or xs v limit) all ∙ alike n v limit) in
    record {
      long = long ∙ many;
      positive = positive;
      begun = here;
      reached = λ v some. elim (cases_eq v start) [
        | inl is ↦ rw is (rw here (reaches_self g start))
        | inr ne ↦ absurd (omega (arith, there v ne))
      ];
      waits = λ x h. subst (IsWaiting limit g start goal found)
          (came_alone (state 0 start) waiting x bag h) record { within = omega (arith, long); below = positive; above = omega arith; reached = reaches_self g start };
      settled = λ u some. elim (cases_eq u start) [
        | inl is ↦ inl (rw is (rw here (came_first (state 0 start) [] waiting bag)))
        | inr ne ↦ absurd (omega (arith, there u ne))
      ];
    }

module _ {limit : ℕ} {g : Graph} {start goal : ℕ} {found : List ℕ} where
  -- a node of which a least cost is known, and for which no less was found, isn't critical once it was examined
  uncritical : (v c : ℕ) (e : Edge) → IsExamined limit g start goal found v → IsLeastCost g start v c → Reaches g start v (get_or found v limit) → HasEdge g v e → limit ≤ c + e.cost → ⊥
  uncritical v c e x least reached has large = omega (arith, x.sums e has, least.least reached.walk reached.leads, reached.costs)

  module _ (S : IsSearch limit g start goal found []) where
    -- where no state waits, a walk from a node with a cost found leads to such nodes alone
    closed : (walk : List Edge) (u v : ℕ) → get_or found u limit < limit → IsWalk g u walk v → get_or found v limit < limit
    closed [] u v some leads = subst (λ (w : ℕ). get_or found w limit < limit) leads some
    closed (e ∷ walk) u v some leads = elim (S.settled u some) [
      | inl wait ↦ absurd (holds_none (state (get_or found u limit) u) wait)
      | inr x ↦ closed walk e.node v (omega (arith, x.sums e leads.0, x.ends e leads.0)) leads.1
    ]

    pub all_found : (walk : List Edge) (v : ℕ) → IsWalk g start walk v → get_or found v limit < limit
    all_found walk v leads = closed walk start v (omega (arith, S.begun, S.positive)) leads

    pub none_reached : IsUnreached g start goal
    none_reached walk leads = elim (S.settled goal (all_found walk goal leads)) [
      | inl wait ↦ holds_none (state (get_or found goal limit) goal) wait
      | inr x ↦ x.other refl
    ]

    pub none_uncritical : NoneCriticalBelow limit g start goal
    none_uncritical v c critical below =
        let some = all_found critical.reached.walk v critical.reached.leads in
        elim (S.settled v some) [
          | inl wait ↦ holds_none (state (get_or found v limit) v) wait
          | inr x ↦ uncritical v c critical.edge x critical.reached (S.reached v some) critical.leaves critical.too_large
        ]

  module _ {waiting : List State} (S : IsSearch limit g start goal found waiting) where
    -- where no state that waits costs less than c, a walk costs at least what was found for its end, or c
    pub bounded : (c : ℕ) → c ≤ limit → ((x : State) → Contains waiting x → c ≤ x.cost) → (walk : List Edge) (u v b : ℕ) → min (get_or found u limit) c ≤ b → IsWalk g u walk v →
        min (get_or found v limit) c ≤ b + cost_of walk
    bounded c small low [] u v b h leads = subst (λ (w : ℕ). min (get_or found w limit) c ≤ b + 0) leads (omega arith)
    bounded c small low (e ∷ walk) u v b h leads =
        let there : min (get_or found e.node limit) c ≤ b + e.cost = elim (cases_lt (get_or found u limit) limit) [
          | inl some ↦ elim (S.settled u some) [
            | inl wait ↦ omega (arith, low (state (get_or found u limit) u) wait)
            | inr x ↦ omega (arith, x.ends e leads.0)
          ]
          | inr far ↦ omega arith
        ] in
        omega (arith, bounded c small low walk e.node v (b + e.cost) there leads.1)

    module _ {s : State} {rest : List State} (bag : IsSameBag waiting (s ∷ rest)) where
      held : IsSameBag (s ∷ rest) waiting
      held = IsPermutation-sym waiting (s ∷ rest) bag

      -- the state that is taken
      pub taken : IsWaiting limit g start goal found s
      taken = S.waits s (came_first s rest waiting held)

      -- the state isn't dearer than that
      pub current : (x : ℕ) → x ≡ get_or found s.position x → s.cost ≤ x → get_or found s.position limit ≡ s.cost
      current x read fresh = omega (arith, found_is limit found s.position x taken.within read, taken.above)

      -- the row that the code read
      pub row_read : (row : Vec Edge Global) → row ≡ get_or g s.position row → slice_get g s.position ≡ Some row
      row_read row read = slice_get_read g (length g) s.position row refl (omega (arith, taken.within, S.long)) read

      -- the state isn't the cheapest of its node
      pub after_skip : (x : ℕ) → x ≡ get_or found s.position x → x < s.cost → IsSearch limit g start goal found rest
      after_skip x read stale = record {
        long = S.long;
        positive = S.positive;
        begun = S.begun;
        reached = S.reached;
        waits = λ y h. S.waits y (came_later s rest waiting y held h);
        settled = λ u some. elim (S.settled u some) [
          | inl wait ↦ elim (came_cases s rest waiting (state (get_or found u limit) u) held wait) [
            | inl is ↦ absurd (omega (arith, found_is limit found s.position x taken.within read, ap (λ (y : State). get_or found y.position limit) is, ap (λ (y : State). y.cost) is))
            | inr left ↦ inl left
          ]
          | inr examined ↦ inr examined
        ];
      }

      -- no state that waits is cheaper
      module _ (low : (x : State) → Contains waiting x → s.cost ≤ x.cost) where
        pub bound : (walk : List Edge) (v : ℕ) → IsWalk g start walk v → min (get_or found v limit) s.cost ≤ cost_of walk
        bound walk v leads = omega (arith, bounded s.cost (omega (arith, taken.below)) low walk start v 0 (omega (arith, S.begun)) leads)

        -- a walk to the goal costs no less than the state
        to_goal : (walk : List Edge) → IsWalk g start walk goal → s.cost ≤ cost_of walk
        to_goal walk leads = elim (cases_lt (get_or found goal limit) limit) [
          | inl some ↦ elim (S.settled goal some) [
            | inl wait ↦ omega (arith, bound walk goal leads, low (state (get_or found goal limit) goal) wait)
            | inr x ↦ absurd (x.other refl)
          ]
          | inr far ↦ omega (arith, bound walk goal leads, taken.below)
        ]

        -- the state is at the goal
        pub found_least : s.position ≡ goal → IsLeastCost g start goal s.cost
        found_least ends_at = record {
          walk = taken.reached.walk;
          leads = subst (IsWalk g start taken.reached.walk) ends_at taken.reached.leads;
          costs = taken.reached.costs;
          least = to_goal;
        }

        pub found_uncritical : s.position ≡ goal → NoneCriticalBelow limit g start goal
        found_uncritical ends_at v c critical below =
            let least = found_least ends_at in
            let r = critical.reached in
            let under : c < s.cost = omega (arith, below least.walk least.leads, least.costs) in
            let upper : get_or found v limit ≤ c = omega (arith, bound r.walk v r.leads, r.costs) in
            let some : get_or found v limit < limit = omega (arith, taken.below) in
            elim (S.settled v some) [
              | inl wait ↦ omega (arith, low (state (get_or found v limit) v) wait)
              | inr x ↦ uncritical v c critical.edge x r (S.reached v some) critical.leaves critical.too_large
            ]

      module _ (other : s.position ≢ goal) (same : get_or found s.position limit ≡ s.cost) (row : Vec Edge Global) (row_is : slice_get g s.position ≡ Some row) where
        -- an edge of the node costs too much
        pub too_large : ((x : State) → Contains waiting x → s.cost ≤ x.cost) → HasTooLarge limit s.cost row.items → HasCritical limit g start goal
        too_large low large = record {
          node = s.position;
          cost = s.cost;
          critical = record {
            other = other;
            reached = record {
              walk = taken.reached.walk;
              leads = taken.reached.leads;
              costs = taken.reached.costs;
              least = λ walk leads. omega (arith, bound low walk s.position leads, same);
            };
            edge = large.edge;
            leaves = record { row = row; row_is = row_is; stands = large.stands };
            too_large = large.too_large;
          };
          at_most = to_goal low;
        }

        -- the edges of the node are examined
        module _ {lower : List ℕ} {grown : List State} (R : Relaxes limit s.cost row.items found rest lower grown) where
          -- a state that waits then waited before, or came over one of them
          waits_on : IsWithin (length g) g → (y : State) → Contains grown y → IsWaiting limit g start goal lower y
          waits_on inside y h = elim (R.adds y h) [
            | inl before ↦
                let old = S.waits y (came_later s rest waiting y held before) in
                record { within = omega (arith, old.within, R.same); below = old.below; above = omega (arith, old.above, R.falls y.position); reached = old.reached }
            | inr a ↦
                let has : HasEdge g s.position a.edge = record { row = row; row_is = row_is; stands = a.stands } in
                record {
                  within = omega (arith, a.ends, S.long, R.same, leads_within g (length g) s.position a.edge inside has);
                  below = omega (arith, a.costs, R.sums a.edge a.stands);
                  above = rw a.ends (rw a.costs (R.ends a.edge a.stands));
                  reached = rw a.ends (rw a.costs (reaches_more g start s.position s.cost a.edge taken.reached has));
                }
          ]

          -- the node itself, whose cost stayed
          examined : (u : ℕ) → state (get_or found u limit) u ≡ s → get_or lower u limit ≡ get_or found u limit → IsExamined limit g start goal lower u
          examined u is stayed =
              let position : s.position ≡ u = sym (ap (λ (y : State). y.position) is) in
              let costs : get_or lower u limit ≡ s.cost = stayed ∙ ap (λ (y : State). y.cost) is in
              let here : slice_get g u ≡ Some row = subst (λ (i : ℕ). slice_get g i ≡ Some row) position row_is in
              record {
                other = subst (λ (i : ℕ). i ≢ goal) position other;
                sums = λ e has. rw costs (R.sums e (in_row g u row e here has));
                ends = λ e has. rw costs (R.ends e (in_row g u row e here has));
              }

          -- a node whose cost stayed
          settled_on : (u : ℕ) → get_or lower u limit ≡ get_or found u limit → Contains waiting (state (get_or found u limit) u) ⊎ IsExamined limit g start goal found u →
              Contains grown (state (get_or lower u limit) u) ⊎ IsExamined limit g start goal lower u
          settled_on u stayed (inl waits) = elim (came_cases s rest waiting (state (get_or found u limit) u) held waits) [
            | inl is ↦ inr (examined u (sym is) stayed)
            | inr left ↦ elim (R.keeps (state (get_or found u limit) u) left) [
              | inl still ↦ inl (rw stayed still)
              | inr less ↦ absurd (omega (arith, less, stayed))
            ]
          ]
          settled_on u stayed (inr old) = inr record { other = old.other; sums = λ e has. rw stayed (old.sums e has); ends = λ e has. omega (arith, stayed, old.ends e has, R.falls e.node) }

          pub after_examining : IsWithin (length g) g → IsSearch limit g start goal lower grown
          after_examining inside = record {
            long = R.same ∙ S.long;
            positive = S.positive;
            begun = omega (arith, R.falls start, S.begun);
            reached = λ v some. elim (R.changes v) [
              | inl stayed ↦ rw stayed (S.reached v (omega (arith, stayed)))
              | inr new ↦ (waits_on inside (state (get_or lower v limit) v) new).reached
            ];
            waits = waits_on inside;
            settled = λ u some. elim (R.changes u) [
              | inl stayed ↦ settled_on u stayed (S.settled u (omega (arith, stayed)))
              | inr new ↦ inl new
            ];
          }
