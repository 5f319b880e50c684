-- What holds of a search as nodes are taken and found, and what follows from it.
use Rattle.dary_heap.proofs.Common.{◌≡◌, ◌≢◌, ◌⊎◌, ℕ, ◌+◌, ◌<◌, ◌≤◌, Bool, true, false, inl, inr, List, [], ◌∷◌, ◌++◌, length}
use Rattle.dary_heap.proofs.Common.{Contains, Option, Some, slice_get, get_or, get_or_from_slice_get, slice_get_within, slice_get_cases}
use Rattle.dary_heap.proofs.Common.{refl, sym, ap, ◌∙◌, subst, arith, cases_eq, cases_lt, length-append}
use Rattle.dary_heap.proofs.Common.{Contains-push, Contains-push_cases, Contains-append_left}
use Rattle.dary_heap.proofs.Bags.{holds_none}
use Rattle.dary_heap.proofs.Order.{slice_get-append, slice_get-push}
use Rattle.std.specs.Cmp.{IsEquivalence}
use Rattle.graph_search.specs.Walk.{AreAlike, HasEdgeBeyond, IsWalk, Keeps, Lists, cost_of}
use Rattle.graph_search.specs.Searching.{CostsAt, Finds, IsExamined, IsFound, IsOverEdge, IsReady, IsSearch, IsStuck, Reaches, Sets, Tables}
use Rattle.graph_search.specs.declared.search.Reached.{Reached}

pub some_same : {X : Type 0} {o : Option X} {x y : X} → o ≡ Some x → o ≡ Some y → x ≡ y
some_same p q = (cc (p, q))

pub none_some : {X : Type 0} (i : ℕ) (x : X) → slice_get {X = X} [] i ≡ Some x → ⊥
none_some {X} i x at = omega (arith, slice_get_within {A = X} [] i x at)

-- an element of a list that grew by one
pub pushed : {X : Type 0} (xs : List X) (y : X) (i : ℕ) (x : X) → slice_get (xs ++ y ∷ []) i ≡ Some x → (slice_get xs i ≡ Some x) ⊎ ((i ≡ length xs) × (y ≡ x))
pushed xs y i x at = elim (cases_lt i (length xs)) [
  | inl low ↦ inl (sym (slice_get-append xs (y ∷ []) i low) ∙ at)
  | inr past ↦
      let is : i ≡ length xs = omega (arith, past, slice_get_within (xs ++ y ∷ []) i x at, length-append xs (y ∷ [])) in
      inr (is, some_same (ap (slice_get (xs ++ y ∷ [])) is ∙ slice_get-push xs y) at)
]

-- the node that the code read
pub node_read : {N : Type 0} (names : List N) (taken : List ℕ) (place number x : ℕ) (node read : N) → x ≡ get_or taken place x → slice_get taken place ≡ Some number → Some read ≡ slice_get names x →
    slice_get names number ≡ Some node → read ≡ node
node_read names taken place number x node read is at shown there =
    let same : x ≡ number = is ∙ get_or_from_slice_get taken place number x at in
    some_same (sym shown) (ap (slice_get names) same ∙ there)

module _ {N : Type 0} where
  pub walk_more : (edge : N → N → ℕ → Type 0) (u : N) (walk : List (N × ℕ)) (v w : N) (step : ℕ) → IsWalk edge u walk v → edge v w step → IsWalk edge u (walk ++ (w, step) ∷ []) w
  walk_more edge u [] v w step h has = (subst (λ (x : N). edge x w step) (sym h) has, refl)
  walk_more edge u (s ∷ walk) v w step h has = (h.0, walk_more edge s.0 walk v w step h.1 has)

  pub cost_more : (walk : List (N × ℕ)) (w : N) (step : ℕ) → cost_of (walk ++ (w, step) ∷ []) ≡ cost_of walk + step
  cost_more [] w step = omega arith
  cost_more (s ∷ walk) w step = omega (arith, cost_more walk w step)

-- a walk from a node leads to a node
pub node_of : {N : Type 0} {is_node : N → Type 0} {edge : N → N → ℕ → Type 0} → Keeps is_node edge → (u : N) (walk : List (N × ℕ)) (v : N) → is_node u → IsWalk edge u walk v → is_node v
node_of {is_node = is_node} keeps u [] v node leads = subst is_node leads node
node_of keeps u (s ∷ walk) v node leads = node_of keeps s.0 walk v (keeps u s.0 s.1 node leads.0) leads.1

module _ {N : Type 0} {eq : N → N → Bool} where
  pub found_weaker : {t : Tables N} {v : N} {most more : ℕ} → most ≤ more → IsFound eq t v most → IsFound eq t v more
  found_weaker le f = record { number = f.number; name = f.name; there = f.there; same = f.same; how = f.how; costs = f.costs; at_most = omega (arith, f.at_most) }

  -- what stands in a table once a node was found
  module _ {node : N} {cost before : ℕ} {old new : Tables N} (F : Finds eq node cost before old new) where
    -- an entry stays, or is this one, which was dearer
    abbrev pub IsFallen : Reached → ℕ → Type 0
    IsFallen how i = (i ≡ F.number) × (cost < how.cost) × (slice_get new.reached i ≡ Some (record { cost = cost; before = before }))

    pub entry_after : (i : ℕ) (how : Reached) → slice_get old.reached i ≡ Some how → (slice_get new.reached i ≡ Some how) ⊎ IsFallen how i
    entry_after i how at = elim F.either [
      | inl p ↦ inl (subst (λ (l : List Reached). slice_get l i ≡ Some how) (sym p.0.same) at)
      | inr p ↦ elim (cases_eq i F.number) [
        | inl is ↦ inr (is, p.0.falls how (subst (λ (j : ℕ). slice_get old.reached j ≡ Some how) is at), ap (slice_get new.reached) is ∙ p.0.now)
        | inr ne ↦ inl (p.0.others i ne ∙ at)
      ]
    ]

    -- an entry was there, or is this one, which waits
    pub entry_before : (i : ℕ) (how : Reached) → slice_get new.reached i ≡ Some how →
        (slice_get old.reached i ≡ Some how) ⊎ ((i ≡ F.number) × (how ≡ record { cost = cost; before = before }) × Contains new.entries (F.number, cost))
    entry_before i how at = elim F.either [
      | inl p ↦ inl (subst (λ (l : List Reached). slice_get l i ≡ Some how) p.0.same at)
      | inr p ↦ elim (cases_eq i F.number) [
        | inl is ↦ inr (is, sym (some_same (ap (slice_get new.reached) is ∙ p.0.now) at), p.1.waits)
        | inr ne ↦ inl (sym (p.0.others i ne) ∙ at)
      ]
    ]

    -- a node found stays so
    pub found_stays : (v : N) (most : ℕ) → IsFound eq old v most → IsFound eq new v most
    found_stays v most f = elim (entry_after f.number f.how f.costs) [
      | inl same ↦ record { number = f.number; name = f.name; there = F.names f.number f.name f.there; same = f.same; how = f.how; costs = same; at_most = f.at_most }
      | inr less ↦ record { number = f.number; name = f.name; there = F.names f.number f.name f.there; same = f.same; how = record { cost = cost; before = before }; costs = less.2; at_most = omega (arith, f.at_most, less.1) }
    ]

    -- the node itself was found
    pub found_itself : IsFound eq new node cost
    found_itself = elim F.either [
      | inl p ↦ record { number = F.number; name = F.name; there = F.there; same = F.same; how = p.0.how; costs = subst (λ (l : List Reached). slice_get l F.number ≡ Some p.0.how) (sym p.0.same) p.0.there; at_most = p.0.at_most }
      | inr p ↦ record { number = F.number; name = F.name; there = F.there; same = F.same; how = record { cost = cost; before = before }; costs = p.0.now; at_most = omega arith }
    ]

-- the node that has a number at which something was reached
pub name_at : {N : Type 0} {t : Tables N} → IsReady t → (i : ℕ) → i < length t.reached → (u : N) × (slice_get t.names i ≡ Some u)
name_at {t = t} ready i within = elim (slice_get_cases t.names i).1 [
  | inl p ↦ (p.0, p.2)
  | inr p ↦ absurd (omega (arith, p.0, ready.long))
]

pub how_at : (reached : List Reached) (i : ℕ) → i < length reached → (how : Reached) × (slice_get reached i ≡ Some how)
how_at reached i within = elim (slice_get_cases reached i).1 [
  | inl p ↦ (p.0, p.2)
  | inr p ↦ absurd (omega (arith, p.0))
]

module _ {N : Type 0} (edge : N → N → ℕ → Type 0) (eq : N → N → Bool) (says : N → Bool → Type 0) (start : N) (limit : ℕ) where
  -- the edges of a node are examined: those that are left lead somewhere, and each other leads to a node found
  pub record IsRelaxing (t : Tables N) (taken : List ℕ) (place cost : ℕ) (node : N) (left : List (N × ℕ)) : Type 0 where
    pub search : IsSearch edge eq says start limit t taken place cost
    pub number : ℕ
    pub at : slice_get taken place ≡ Some number
    pub there : slice_get t.names number ≡ Some node
    pub costs : CostsAt t.reached number cost
    pub refused : says node false
    pub each : (e : N × ℕ) → Contains left e → edge node e.0 e.1
    pub all : (v : N) (step : ℕ) → edge node v step → ((e : N × ℕ) × Contains left e × (eq v e.0 ≡ true) × (e.1 ≡ step)) ⊎ (IsFound eq t v (cost + step) × (cost + step ≤ limit))

module _ {N : Type 0} {edge : N → N → ℕ → Type 0} {eq : N → N → Bool} {says : N → Bool → Type 0} {start : N} {limit : ℕ} where
  pub reaches_self : Reaches edge eq says start limit start 0
  reaches_self = record { walk = []; leads = refl; costs = refl }

  pub reaches_more : {v w : N} {cost step : ℕ} → Reaches edge eq says start limit v cost → edge v w step → Reaches edge eq says start limit w (cost + step)
  reaches_more {v} {w} {cost} {step} h has = record {
    walk = h.walk ++ (w, step) ∷ [];
    leads = walk_more edge start h.walk v w step h.leads has;
    costs = omega (arith, cost_more h.walk w step, h.costs);
  }

  -- a node is found over an edge from the one taken last
  module _ {t new : Tables N} {taken : List ℕ} {examined level place from : ℕ} {name node : N} {was : Reached} {step : ℕ}
      (E : IsEquivalence eq) (alike : AreAlike eq edge)
      (S : IsSearch edge eq says start limit t taken examined level)
      (at : slice_get taken place ≡ Some from) (name_is : slice_get t.names from ≡ Some name) (costs : slice_get t.reached from ≡ Some was) (is_level : was.cost ≡ level)
      (leads : edge name node step) (F : Finds eq node (level + step) place t new) where
    -- what is known of a node that was taken stays
    taken_after : (k i : ℕ) (how : Reached) → slice_get taken k ≡ Some i → slice_get t.reached i ≡ Some how → slice_get new.reached i ≡ Some how
    taken_after k i how here at' = elim (entry_after F i how at') [
      | inl same ↦ same
      | inr less ↦ absurd (omega (arith, less.1, S.below k i how here at'))
    ]

    taken_before : (k i : ℕ) (how : Reached) → slice_get taken k ≡ Some i → slice_get new.reached i ≡ Some how → slice_get t.reached i ≡ Some how
    taken_before k i how here at' =
        let old = how_at t.reached i (S.inside k i here) in
        old.1 ∙ ap (λ (h : Reached). Some h) (some_same (taken_after k i old.0 here old.1) at')

    -- and it isn't the one found, if that was noted
    not_taken : (k i : ℕ) → slice_get taken k ≡ Some i → Sets F.number (level + step) place t.reached new.reached → F.number ≢ i
    not_taken k i here sets is =
        let old = how_at t.reached i (S.inside k i here) in
        omega (arith, S.below k i old.0 here old.1, sets.falls old.0 (ap (slice_get t.reached) is ∙ old.1))

    over : {u : N} {how : Reached} → IsOverEdge edge eq says start limit t taken u how → IsOverEdge edge eq says start limit new taken u how
    over {u} {how} o = record {
      from = o.from;
      place = o.place;
      name = o.name;
      there = F.names o.from o.name o.there;
      was = o.was;
      costs = taken_after how.before o.from o.was o.place o.costs;
      step = o.step;
      leads = o.leads;
      sum = o.sum;
    }

    leads_on : edge name F.name step
    leads_on = alike name name node F.name step (E.refl name) F.same leads

    -- which node has a number
    old_name : (i : ℕ) (u : N) (how : Reached) → slice_get new.names i ≡ Some u → slice_get t.reached i ≡ Some how → slice_get t.names i ≡ Some u
    old_name i u how there at' =
        let old = name_at S.ready i (slice_get_within t.reached i how at') in
        old.1 ∙ ap (λ (x : N). Some x) (some_same (F.names i old.0 old.1) there)

    pub search_found : IsSearch edge eq says start limit new taken examined level
    search_found = record {
      ready = F.ready;
      unique = F.unique;
      named = F.names 0 start S.named;
      begun = found_stays F start 0 S.begun;
      inside = λ k i here. let old = how_at t.reached i (S.inside k i here) in slice_get_within new.reached i old.0 (taken_after k i old.0 here old.1);
      below = λ k i how here at'. S.below k i how here (taken_before k i how here at');
      above = λ e h. elim F.either [
        | inl p ↦ S.above e (subst (λ (l : List (ℕ × ℕ)). Contains l e) p.1 h)
        | inr p ↦ elim (p.1.came e h) [
          | inl is ↦ subst (λ (e : ℕ × ℕ). level ≤ e.1) is (omega arith)
          | inr old ↦ S.above e old.0
        ]
      ];
      apart = λ k i e here h. elim F.either [
        | inl p ↦ S.apart k i e here (subst (λ (l : List (ℕ × ℕ)). Contains l e) p.1 h)
        | inr p ↦ elim (p.1.came e h) [
          | inl is ↦ subst (λ (e : ℕ × ℕ). e.0 ≢ i) is (not_taken k i here p.0)
          | inr old ↦ S.apart k i e here old.0
        ]
      ];
      once = S.once;
      done = λ k i u how early here there at'.
          let before = taken_before k i how here at' in
          let x = S.done k i u how early here (old_name i u how there before) before in
          record { refused = x.refused; ends = λ v step leads. found_stays F v (how.cost + step) (x.ends v step leads); sums = x.sums };
      settled = λ i how at'. elim (entry_before F i how at') [
        | inl old ↦ elim (S.settled i how old) [
          | inl waits ↦ elim F.either [
            | inl p ↦ inl (subst (λ (l : List (ℕ × ℕ)). Contains l (i, how.cost)) (sym p.1) waits)
            | inr p ↦ elim (p.1.kept (i, how.cost) waits) [
              | inl still ↦ inl still
              | inr is ↦
                  let now : slice_get new.reached i ≡ Some (record { cost = level + step; before = place }) = ap (slice_get new.reached) is ∙ p.0.now in
                  let same : how.cost ≡ level + step = ap (λ (h : Reached). h.cost) (some_same at' now) in
                  inl (subst (λ (c : ℕ). Contains new.entries (i, c)) (sym same) (subst (λ (j : ℕ). Contains new.entries (j, level + step)) (sym is) p.1.waits))
            ]
          ]
          | inr taken ↦ inr taken
        ]
        | inr p ↦ inl (subst (λ (c : ℕ). Contains new.entries (i, c)) (sym (ap (λ (h : Reached). h.cost) p.1)) (subst (λ (j : ℕ). Contains new.entries (j, level + step)) (sym p.0) p.2))
      ];
      free = λ how at'. elim (entry_before F 0 how at') [
        | inl old ↦ S.free how old
        | inr p ↦ elim F.either [
          | inl known ↦ S.free how (subst (λ (l : List Reached). slice_get l 0 ≡ Some how) known.0.same at')
          | inr sets ↦
              let old = how_at t.reached 0 (omega (arith, S.ready.long, slice_get_within t.names 0 start S.named)) in
              absurd (omega (arith, S.free old.0 old.1, sets.0.falls old.0 (ap (slice_get t.reached) (sym p.0) ∙ old.1)))
        ]
      ];
      walks = λ i u how there at'. elim (entry_before F i how at') [
        | inl old ↦ S.walks i u how (old_name i u how there old) old
        | inr p ↦
            let is : F.name ≡ u = some_same (ap (slice_get new.names) p.0 ∙ F.there) there in
            let to : Reaches edge eq says start limit F.name (level + step) = subst (λ (c : ℕ). Reaches edge eq says start limit F.name (c + step)) is_level (reaches_more (S.walks from name was name_is costs) leads_on) in
            subst (λ (x : N). Reaches edge eq says start limit x how.cost) is (subst (λ (c : ℕ). Reaches edge eq says start limit F.name c) (sym (ap (λ (h : Reached). h.cost) p.1)) to)
      ];
      comes = λ i u how there at'. elim (entry_before F i how at') [
        | inl old ↦ elim (S.comes i u how (old_name i u how there old) old) [
          | inl first ↦ inl first
          | inr o ↦ inr (over o)
        ]
        | inr p ↦
            let is : F.name ≡ u = some_same (ap (slice_get new.names) p.0 ∙ F.there) there in
            inr record {
              from = from;
              place = ap (λ (h : Reached). slice_get taken h.before) p.1 ∙ at;
              name = name;
              there = F.names from name name_is;
              was = was;
              costs = taken_after place from was at costs;
              step = step;
              leads = subst (λ (x : N). edge name x step) is leads_on;
              sum = omega (arith, ap (λ (h : Reached). h.cost) p.1, is_level);
            }
      ];
      order = λ k i how here at'. S.order k i how here (taken_before k i how here at');
    }

    pub name_stays : slice_get new.names from ≡ Some name
    name_stays = F.names from name name_is

    pub cost_stays : slice_get new.reached from ≡ Some was
    cost_stays = taken_after place from was at costs

  pub relaxing_begins : {t : Tables N} {taken : List ℕ} {place cost : ℕ} {node : N} {left : List (N × ℕ)} {number : ℕ} →
      IsSearch edge eq says start limit t taken place cost → slice_get taken place ≡ Some number → slice_get t.names number ≡ Some node → CostsAt t.reached number cost → says node false →
      Lists eq (edge node) left → IsRelaxing edge eq says start limit t taken place cost node left
  relaxing_begins {number = number} S at there costs refused lists = record {
    search = S;
    number = number;
    at = at;
    there = there;
    costs = costs;
    refused = refused;
    each = lists.each;
    all = λ v step leads. inl (lists.all v step leads);
  }

  -- the last edge leads to a node that is found
  pub relaxing_more : {t new : Tables N} {taken : List ℕ} {place cost : ℕ} {node : N} {left : List (N × ℕ)} (rest : List (N × ℕ)) (next : N) (step : ℕ) →
      IsEquivalence eq → AreAlike eq edge → IsRelaxing edge eq says start limit t taken place cost node left → left ≡ rest ++ (next, step) ∷ [] → cost + step ≤ limit → Finds eq next (cost + step) place t new →
      IsRelaxing edge eq says start limit new taken place cost node rest
  relaxing_more {t} {new} {taken} {place} {cost} {node} {left} rest next step E alike R is under F =
      let last : Contains left (next, step) = subst (λ (l : List (N × ℕ)). Contains l (next, step)) (sym is) (Contains-push rest (next, step)) in
      let leads = R.each (next, step) last in
      record {
        search = search_found E alike R.search R.at R.there R.costs.there R.costs.is leads F;
        number = R.number;
        at = R.at;
        there = F.names R.number node R.there;
        costs = record { how = R.costs.how; there = cost_stays E alike R.search R.at R.there R.costs.there R.costs.is leads F; is = R.costs.is };
        refused = R.refused;
        each = λ e h. R.each e (subst (λ (l : List (N × ℕ)). Contains l e) (sym is) (Contains-append_left rest ((next, step) ∷ []) e h));
        all = λ v d leads. elim (R.all v d leads) [
          | inl p ↦ elim (Contains-push_cases rest (next, step) p.0 (subst (λ (l : List (N × ℕ)). Contains l p.0) is p.1)) [
            | inl before ↦ inl (p.0, before, p.2, p.3)
            | inr same ↦
                let f = found_itself F in
                let to : eq v next ≡ true = ap (λ (e : N × ℕ). eq v e.0) same ∙ p.2 in
                let costs : step ≡ d = ap (λ (e : N × ℕ). e.1) same ∙ p.3 in
                inr (
                  record { number = f.number; name = f.name; there = f.there; same = E.congr v next f.name to ∙ f.same; how = f.how; costs = f.costs; at_most = omega (arith, f.at_most, costs) },
                  omega (arith, costs, under),
                )
          ]
          | inr p ↦ inr (found_stays F v (cost + d) p.0, p.1)
        ];
      }

  -- no edge is left
  pub relaxing_ends : {t : Tables N} {taken : List ℕ} {place cost : ℕ} {node : N} → IsRelaxing edge eq says start limit t taken place cost node [] →
      IsSearch edge eq says start limit t taken (place + 1) cost
  relaxing_ends {t} {taken} {place} {cost} {node} R =
      let S = R.search in
      record {
        ready = S.ready;
        unique = S.unique;
        named = S.named;
        begun = S.begun;
        inside = S.inside;
        below = S.below;
        above = S.above;
        apart = S.apart;
        once = S.once;
        done = λ k i u how early here there at. elim (cases_lt k place) [
          | inl before ↦ S.done k i u how before here there at
          | inr late ↦
              let same : k ≡ place = omega arith in
              let number : R.number ≡ i = some_same R.at (ap (slice_get taken) (sym same) ∙ here) in
              let name : node ≡ u = some_same R.there (ap (slice_get t.names) number ∙ there) in
              let costs : cost ≡ how.cost = sym R.costs.is ∙ ap (λ (h : Reached). h.cost) (some_same R.costs.there (ap (slice_get t.reached) number ∙ at)) in
              subst (λ (c : ℕ). IsExamined edge eq says start limit t u c) costs (subst (λ (x : N). IsExamined edge eq says start limit t x cost) name record {
                refused = R.refused;
                ends = λ v step leads. elim (R.all v step leads) [
                  | inl p ↦ absurd (holds_none p.0 p.1)
                  | inr p ↦ p.0
                ];
                sums = λ v step leads. elim (R.all v step leads) [
                  | inl p ↦ absurd (holds_none p.0 p.1)
                  | inr p ↦ p.1
                ];
              })
        ];
        settled = S.settled;
        free = S.free;
        walks = S.walks;
        comes = S.comes;
        order = S.order;
      }

  -- an edge costs too much
  pub relaxing_fails : {refuses : N → Type 0} {t : Tables N} {taken : List ℕ} {place cost : ℕ} {node : N} {left : List (N × ℕ)} (rest : List (N × ℕ)) (next : N) (step : ℕ) →
      IsRelaxing edge eq says start limit t taken place cost node left → left ≡ rest ++ (next, step) ∷ [] → limit < cost + step → IsStuck edge refuses says limit node cost
  relaxing_fails {node = node} {left} rest next step R is above = record {
    refused = R.refused;
    why = inl record {
      next = next;
      step = step;
      leaves = R.each (next, step) (subst (λ (l : List (N × ℕ)). Contains l (next, step)) (sym is) (Contains-push rest (next, step)));
      too_large = above;
    };
  }

  -- what was found is a node
  pub found_node : {is_node : N → Type 0} {t : Tables N} {taken : List ℕ} {examined level : ℕ} → Keeps is_node edge → is_node start → IsSearch edge eq says start limit t taken examined level →
      (i : ℕ) (u : N) → slice_get t.names i ≡ Some u → is_node u
  found_node {t = t} keeps node S i u there =
      let how = how_at t.reached i (omega (arith, S.ready.long, slice_get_within t.names i u there)) in
      let to = S.walks i u how.0 there how.1 in
      node_of keeps start to.walk u node to.leads
