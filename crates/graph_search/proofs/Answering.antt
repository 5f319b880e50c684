-- A search begins, takes a node, and ends: what follows then.
use Rattle.dary_heap.proofs.Common.{◌≡◌, ◌≢◌, ◌⊎◌, ℕ, suc, ◌+◌, ◌-◌, ◌<◌, ◌≤◌, Bool, true, false, inl, inr, List, [], ◌∷◌}
use Rattle.dary_heap.proofs.Common.{◌++◌, length, Contains, Some, map, slice_get, slice_get-get_or, slice_get_within, refl, sym, ap, ◌∙◌, subst, arith, cases_eq, cases_lt, append-nil, append_assoc}
use Rattle.dary_heap.proofs.Common.{IsSameBag, IsGreatest, IsPermutation-sym, IsDistinct, IsDistinct-cons, IsDistinct-IsPermutation, AllByRecursion, nat_cmp, true≢false}
use Rattle.dary_heap.proofs.Bags.{came_first, came_later, came_cases, holds_none}
use Rattle.dary_heap.proofs.Callers.{nat_le_from_cmp}
use Rattle.dary_heap.proofs.Order.{slice_get-push}
use Rattle.std.proofs.Common.{reverse}
use Rattle.std.proofs.lemmas.List.{reverse-append}
use Rattle.std.proofs.lemmas.List.Sorted.{IsPermutation-reverse}
use Rattle.std.specs.Cmp.{IsEquivalence}
use Rattle.indexed_heap.specs.Entries.{IsAbsent, by_item}
use Rattle.graph_search.specs.Walk.{AreAlike, HasEdgeBeyond, IsWalk, IsWayToGoal, NoGoal, NoGoalBelow, NoneCritical, NoneCriticalBelow, cost_of}
use Rattle.graph_search.specs.Searching.{AreReadBack, AreTraced, CostsAt, Finds, HasStuck, IsFound, IsReadOff, IsSearch, IsStuck, IsTaken, Reaches, Tables, tables}
use Rattle.graph_search.specs.declared.search.Reached.{Reached}
use Rattle.graph_search.proofs.Finding.{stays}
use Rattle.graph_search.proofs.Numbering.{apart_at}
use Rattle.graph_search.proofs.Searching.{entry_before, found_itself, found_weaker, how_at, name_at, none_some, pushed, reaches_self, some_same}

-- the entry that is taken costs least
pub low_of : (entries : List (ℕ × ℕ)) (taken : ℕ × ℕ) → IsGreatest (by_item (λ x y. nat_cmp y x)) entries taken → (e : ℕ × ℕ) → Contains entries e → taken.1 ≤ e.1
low_of entries taken h e in' = nat_le_from_cmp taken.1 e.1 (h.none_above e in')

not_there : {key : ℕ} (entries : List (ℕ × ℕ)) (e : ℕ × ℕ) → IsAbsent key entries → Contains entries e → e.0 ≢ key
not_there entries e absent h = absent.none h.0 e (slice_get-get_or entries h.0 e h.1 ∙ ap (λ (x : ℕ × ℕ). Some x) h.2)

pub reverse_first : {N : Type 0} (v : N) (nodes more : List N) → reverse (v ∷ nodes) ++ more ≡ reverse nodes ++ v ∷ more
reverse_first {N} v nodes more = ap (λ (l : List N). l ++ more) (reverse-append (v ∷ []) nodes) ∙ append_assoc (reverse nodes) (v ∷ []) more

module _ {N : Type 0} {eq : N → N → Bool} {start : N} {t : Tables N} (F : Finds eq start 0 0 (tables [] [] []) t) where
  number : F.number ≡ 0
  number = (F.fresh refl).0

  named : slice_get t.names 0 ≡ Some start
  named = subst (λ (i : ℕ). slice_get t.names i ≡ Some start) number (F.there ∙ ap (λ (x : N). Some x) (F.fresh refl).1)

  only : (i : ℕ) (how : Reached) → slice_get t.reached i ≡ Some how → (i ≡ 0) × (how.cost ≡ 0) × Contains t.entries (0, 0)
  only i how at = elim (entry_before F i how at) [
    | inl old ↦ absurd (none_some i how old)
    | inr p ↦ (p.0 ∙ number, ap (λ (h : Reached). h.cost) p.1, subst (λ (j : ℕ). Contains t.entries (j, 0)) number p.2)
  ]

module _ {N : Type 0} {edge : N → N → ℕ → Type 0} {eq : N → N → Bool} {says : N → Bool → Type 0} {start : N} {limit : ℕ} where
  -- the start was found, and waits alone
  module _ {t : Tables N} (F : Finds eq start 0 0 (tables [] [] []) t) where
    pub search_begins : IsSearch edge eq says start limit t [] 0 0
    search_begins = record {
      ready = F.ready;
      unique = F.unique;
      named = named F;
      begun = found_itself F;
      inside = λ k i here. absurd (none_some k i here);
      below = λ k i how here at. absurd (none_some k i here);
      above = λ e h. omega arith;
      apart = λ k i e here h. absurd (none_some k i here);
      once = λ j k i here there. absurd (none_some j i here);
      done = λ k i u how early here there at. absurd (none_some k i here);
      settled = λ i how at.
          let o = only F i how at in
          inl (subst (λ (c : ℕ). Contains t.entries (i, c)) (sym o.1) (subst (λ (j : ℕ). Contains t.entries (j, 0)) (sym o.0) o.2));
      walks = λ i u how there at.
          let o = only F i how at in
          let is : start ≡ u = some_same (named F) (ap (slice_get t.names) (sym o.0) ∙ there) in
          subst (λ (x : N). Reaches edge eq says start limit x how.cost) is (subst (λ (c : ℕ). Reaches edge eq says start limit start c) (sym o.1) reaches_self);
      free = λ how at. (only F 0 how at).1;
      comes = λ i u how there at. inl (only F i how at).0;
      order = λ k i how here at. absurd (none_some k i here);
    }

  pub search_at : {t : Tables N} {taken : List ℕ} {level : ℕ} (k j : ℕ) → k ≡ j → IsSearch edge eq says start limit t taken k level → IsSearch edge eq says start limit t taken j level
  search_at {t} {taken} {level} k j is S = subst (λ (i : ℕ). IsSearch edge eq says start limit t taken i level) is S

  -- a node that costs least is taken
  module _ {t : Tables N} {taken : List ℕ} {level : ℕ} (i c : ℕ) (rest : List (ℕ × ℕ)) (S : IsSearch edge eq says start limit t taken (length taken) level)
      (bag : IsSameBag t.entries ((i, c) ∷ rest)) (gone : IsAbsent i rest) (low : (e : ℕ × ℕ) → Contains t.entries e → c ≤ e.1) where
    held : IsSameBag ((i, c) ∷ rest) t.entries
    held = IsPermutation-sym t.entries ((i, c) ∷ rest) bag

    first : Contains t.entries (i, c)
    first = came_first (i, c) rest t.entries held

    later : (e : ℕ × ℕ) → Contains rest e → Contains t.entries e
    later e h = came_later (i, c) rest t.entries e held h

    pub taken_costs : CostsAt t.reached i c
    taken_costs = let x = S.ready.exact (i, c) first in record { how = x.0; there = x.1; is = x.2 }

    pub taken_at : slice_get (taken ++ i ∷ []) (length taken) ≡ Some i
    taken_at = slice_get-push taken i

    abbrev after : Tables N
    after = tables t.names t.reached rest

    same : {v : N} {most : ℕ} → IsFound eq t v most → IsFound eq after v most
    same f = record { number = f.number; name = f.name; there = f.there; same = f.same; how = f.how; costs = f.costs; at_most = f.at_most }

    pub search_taken : IsSearch edge eq says start limit after (taken ++ i ∷ []) (length taken) c
    search_taken = record {
      ready = record { long = S.ready.long; exact = λ e h. S.ready.exact e (later e h) };
      unique = S.unique;
      named = S.named;
      begun = same S.begun;
      inside = λ k j here. elim (pushed taken i k j here) [
        | inl old ↦ S.inside k j old
        | inr p ↦ subst (λ (n : ℕ). n < length t.reached) p.1 (slice_get_within t.reached i taken_costs.how taken_costs.there)
      ];
      below = λ k j how here at. elim (pushed taken i k j here) [
        | inl old ↦ omega (arith, S.below k j how old at, S.above (i, c) first)
        | inr p ↦
            let is : taken_costs.how ≡ how = some_same taken_costs.there (ap (slice_get t.reached) p.1 ∙ at) in
            omega (arith, ap (λ (h : Reached). h.cost) is, taken_costs.is)
      ];
      above = λ e h. low e (later e h);
      apart = λ k j e here h. elim (pushed taken i k j here) [
        | inl old ↦ S.apart k j e old (later e h)
        | inr p ↦ subst (λ (n : ℕ). e.0 ≢ n) p.1 (not_there rest e gone h)
      ];
      once = λ j k n here there. elim (pushed taken i j n here) [
        | inl old ↦ elim (pushed taken i k n there) [
          | inl also ↦ S.once j k n old also
          | inr p ↦ absurd (S.apart j n (i, c) old first p.1)
        ]
        | inr p ↦ elim (pushed taken i k n there) [
          | inl also ↦ absurd (S.apart k n (i, c) also first p.1)
          | inr q ↦ p.0 ∙ sym q.0
        ]
      ];
      done = λ k j u how early here there at. elim (pushed taken i k j here) [
        | inl old ↦
            let x = S.done k j u how early old there at in
            record { refused = x.refused; ends = λ v step leads. same (x.ends v step leads); sums = x.sums }
        | inr p ↦ absurd (omega (arith, p.0, early))
      ];
      settled = λ j how at. elim (S.settled j how at) [
        | inl waits ↦ elim (came_cases (i, c) rest t.entries (j, how.cost) held waits) [
          | inl is ↦ inr (length taken, taken_at ∙ ap (λ (e : ℕ × ℕ). Some e.0) is)
          | inr left ↦ inl left
        ]
        | inr was ↦ inr (was.0, stays taken (i ∷ []) was.0 j was.1)
      ];
      walks = S.walks;
      free = S.free;
      comes = λ j u how there at. elim (S.comes j u how there at) [
        | inl is ↦ inl is
        | inr o ↦ inr record { from = o.from; place = stays taken (i ∷ []) how.before o.from o.place; name = o.name; there = o.there; was = o.was; costs = o.costs; step = o.step; leads = o.leads; sum = o.sum }
      ];
      order = λ k j how here at. elim (pushed taken i k j here) [
        | inl old ↦ S.order k j how old at
        | inr p ↦ elim (cases_eq j 0) [
          | inl zero ↦ elim (cases_lt 0 (length taken)) [
            | inl some ↦
                let old = slice_get-get_or taken 0 0 some in
                let past = how_at t.reached _ (S.inside 0 _ old) in
                elim (S.order 0 _ past.0 old past.1) [
                  | inl q ↦ absurd (S.apart 0 _ (i, c) old first (p.1 ∙ zero ∙ sym q.1))
                  | inr q ↦ absurd (omega (arith, q.0))
                ]
            | inr none ↦ inl (omega (arith, p.0), zero)
          ]
          | inr ne ↦
              let u = name_at S.ready j (slice_get_within t.reached j how at) in
              elim (S.comes j u.0 how u.1 at) [
                | inl zero ↦ absurd (ne zero)
                | inr o ↦ inr (omega (arith, p.0, slice_get_within taken how.before o.from o.place), ne)
              ]
        ]
      ];
    }

    -- by the names that the code has
    pub search_pushed : (more : List ℕ) (place : ℕ) → more ≡ taken ++ i ∷ [] → place ≡ length taken → IsSearch edge eq says start limit after more place c
    search_pushed more place is at =
        subst (λ (k : ℕ). IsSearch edge eq says start limit after more k c) (sym at) (subst (λ (l : List ℕ). IsSearch edge eq says start limit after l (length taken) c) (sym is) search_taken)

    pub pushed_at : (more : List ℕ) (place : ℕ) → more ≡ taken ++ i ∷ [] → place ≡ length taken → slice_get more place ≡ Some i
    pushed_at more place is at = subst (λ (k : ℕ). slice_get more k ≡ Some i) (sym at) (subst (λ (l : List ℕ). slice_get l (length taken) ≡ Some i) (sym is) taken_at)

    pub taken_name : (node : N) × (slice_get t.names i ≡ Some node)
    taken_name = name_at S.ready i (slice_get_within t.reached i taken_costs.how taken_costs.there)

  -- all nodes taken were examined
  module _ {t : Tables N} {taken : List ℕ} {level : ℕ} (E : IsEquivalence eq) (alike : AreAlike eq edge) (S : IsSearch edge eq says start limit t taken (length taken) level) where
    -- where no node that waits costs less than c, the end of a walk was found at no more than the walk costs, or the walk costs c
    bounded : (c : ℕ) → ((e : ℕ × ℕ) → Contains t.entries e → c ≤ e.1) → (walk : List (N × ℕ)) (u v : N) (b : ℕ) → IsFound eq t u b ⊎ (c ≤ b) → IsWalk edge u walk v →
        IsFound eq t v (b + cost_of walk) ⊎ (c ≤ b + cost_of walk)
    bounded c low [] u v b (inl f) leads = inl (subst (λ (x : N). IsFound eq t x (b + 0)) leads (found_weaker (omega arith) f))
    bounded c low [] u v b (inr far) leads = inr (omega arith)
    bounded c low (s ∷ walk) u v b h leads =
        let there : IsFound eq t s.0 (b + s.1) ⊎ (c ≤ b + s.1) = elim h [
          | inl f ↦ elim (S.settled f.number f.how f.costs) [
            | inl waits ↦ inr (omega (arith, low (f.number, f.how.cost) waits, f.at_most))
            | inr was ↦
                let x = S.done was.0 f.number f.name f.how (slice_get_within taken was.0 f.number was.1) was.1 f.there f.costs in
                inl (found_weaker (omega (arith, f.at_most)) (x.ends s.0 s.1 (alike u f.name s.0 s.0 s.1 f.same (E.refl s.0) leads.0)))
          ]
          | inr far ↦ inr (omega (arith, far))
        ] in
        elim (bounded c low walk s.0 v (b + s.1) there leads.1) [
          | inl f ↦ inl (found_weaker (omega arith) f)
          | inr far ↦ inr (omega (arith, far))
        ]

    pub refused_below : (c : ℕ) → ((e : ℕ × ℕ) → Contains t.entries e → c ≤ e.1) → NoGoalBelow edge eq says start c
    refused_below c low v walk leads less = elim (bounded c low walk start v 0 (inl S.begun) leads) [
      | inl f ↦ elim (S.settled f.number f.how f.costs) [
        | inl waits ↦ absurd (omega (arith, low (f.number, f.how.cost) waits, f.at_most, less))
        | inr was ↦
            let x = S.done was.0 f.number f.name f.how (slice_get_within taken was.0 f.number was.1) was.1 f.there f.costs in
            record { equal = f.name; same = f.same; refused = x.refused }
      ]
      | inr far ↦ absurd (omega (arith, far, less))
    ]

    pub cheap_below : (c : ℕ) → ((e : ℕ × ℕ) → Contains t.entries e → c ≤ e.1) → NoneCriticalBelow edge eq says start limit c
    cheap_below c low v walk leads less next step leaves = elim (bounded c low walk start v 0 (inl S.begun) leads) [
      | inl f ↦ elim (S.settled f.number f.how f.costs) [
        | inl waits ↦ absurd (omega (arith, low (f.number, f.how.cost) waits, f.at_most, less))
        | inr was ↦
            let x = S.done was.0 f.number f.name f.how (slice_get_within taken was.0 f.number was.1) was.1 f.there f.costs in
            let to = S.walks f.number f.name f.how f.there f.costs in
            let fits = x.sums next step (alike v f.name next next step f.same (E.refl next) leaves) in
            record { equal = f.name; same = f.same; other = to.walk; leads = to.leads; at_most = omega (arith, to.costs, f.at_most); fits = omega (arith, to.costs, fits) }
      ]
      | inr far ↦ absurd (omega (arith, far, less))
    ]

    -- no node waits
    pub none_critical : t.entries ≡ [] → NoneCritical edge eq says start limit
    none_critical none v walk leads next step leaves =
        cheap_below (suc (cost_of walk)) (λ e h. absurd (holds_none e (subst (λ (l : List (ℕ × ℕ)). Contains l e) none h))) v walk leads (omega arith) next step leaves

    pub no_goal : t.entries ≡ [] → NoGoal edge eq says start
    no_goal none v walk leads =
        refused_below (suc (cost_of walk)) (λ e h. absurd (holds_none e (subst (λ (l : List (ℕ × ℕ)). Contains l e) none h))) v walk leads (omega arith)

    -- the search is stuck at the node that costs least
    pub stuck : {refuses : N → Type 0} (i c : ℕ) (node : N) → CostsAt t.reached i c → slice_get t.names i ≡ Some node → ((e : ℕ × ℕ) → Contains t.entries e → c ≤ e.1) →
        IsStuck edge refuses says limit node c → HasStuck edge refuses eq says start limit
    stuck {refuses} i c node costs there low at =
        let to = S.walks i node costs.how there costs.there in
        let is : c ≡ cost_of to.walk = omega (arith, to.costs, costs.is) in
        record {
          node = node;
          walk = to.walk;
          why = subst (λ (d : ℕ). HasEdgeBeyond (edge node) limit d ⊎ refuses node) is at.why;
          next = record {
            leads = to.leads;
            least = λ v other alike' leads. elim (bounded c low other start v 0 (inl S.begun) leads) [
              | inl f ↦ elim (cases_eq f.number i) [
                | inl is ↦
                    let same : f.how ≡ costs.how = some_same f.costs (ap (slice_get t.reached) is ∙ costs.there) in
                    omega (arith, f.at_most, ap (λ (h : Reached). h.cost) same, to.costs)
                | inr ne ↦
                    let equal : eq f.name node ≡ true = sym (E.congr v f.name node f.same) ∙ alike' in
                    absurd (true≢false (sym equal ∙ apart_at E t.names S.unique f.number i f.name node ne f.there there))
              ]
              | inr far ↦ omega (arith, far, to.costs, costs.is)
            ];
            nearest = λ v other leads less. refused_below c low v other leads (omega (arith, less, to.costs, costs.is));
            refused = at.refused;
          };
        }

  -- the way is read
  module _ {t : Tables N} {taken : List ℕ} {examined level : ℕ} (E : IsEquivalence eq) (S : IsSearch edge eq says start limit t taken examined level) where
    pub traced : 0 < length taken → AreTraced t.names t.reached taken
    traced some = record {
      some = some;
      inside = λ k i here. (omega (arith, S.inside k i here, S.ready.long), S.inside k i here);
      once = S.once;
      order = λ k i how here at other. elim (S.order k i how here at) [
        | inl p ↦ absurd (other p.0)
        | inr p ↦ p.0
      ];
    }

    start_at : (u : N) (how : Reached) → IsTaken t.names t.reached taken 0 u how → (start ≡ u) × (how.cost ≡ 0)
    start_at u how x = elim (S.order 0 x.number how x.at x.costs) [
      | inl p ↦ (some_same S.named (ap (slice_get t.names) (sym p.1) ∙ x.there), S.free how (ap (slice_get t.reached) (sym p.1) ∙ x.costs))
      | inr p ↦ absurd (omega (arith, p.0))
    ]

    -- from the nodes read and a walk from the last of them on, the whole walk
    pub record IsWhole (nodes : List N) (walk : List (N × ℕ)) (cost : ℕ) (goal : N) : Type 0 where
      pub whole : List (N × ℕ)
      pub leads : IsWalk edge start whole goal
      pub costs : cost_of whole ≡ cost
      pub visits : start ∷ map (λ (s : N × ℕ). s.0) whole ≡ (start ∷ reverse nodes) ++ map (λ (s : N × ℕ). s.0) walk

    whole_of : (nodes : List N) (k : ℕ) (u : N) (how : Reached) (walk : List (N × ℕ)) (cost : ℕ) (goal : N) → AreReadBack t.names t.reached taken k nodes 0 → IsTaken t.names t.reached taken k u how →
        IsWalk edge u walk goal → how.cost + cost_of walk ≡ cost → IsWhole nodes walk cost goal
    whole_of [] k u how walk cost goal back x leads costs =
        let s = start_at u how (subst (λ (j : ℕ). IsTaken t.names t.reached taken j u how) back x) in
        record { whole = walk; leads = subst (λ (v : N). IsWalk edge v walk goal) (sym s.0) leads; costs = omega (arith, costs, s.1); visits = refl }
    whole_of (v ∷ nodes) k u how walk cost goal back x leads costs =
        let y = back.1 in
        let number : y.number ≡ x.number = some_same y.at x.at in
        let node : v ≡ u = some_same y.there (ap (slice_get t.names) number ∙ x.there) in
        let same : back.0 ≡ how = some_same y.costs (ap (slice_get t.reached) number ∙ x.costs) in
        elim (S.order k x.number how x.at x.costs) [
          | inl p ↦ absurd (back.2 p.0)
          | inr p ↦ elim (S.comes x.number u how x.there x.costs) [
            | inl zero ↦ absurd (p.1 zero)
            | inr o ↦
                let earlier : AreReadBack t.names t.reached taken how.before nodes 0 = subst (λ (h : Reached). AreReadBack t.names t.reached taken h.before nodes 0) same back.3 in
                let w = whole_of nodes how.before o.name o.was ((u, o.step) ∷ walk) cost goal earlier (record { number = o.from; at = o.place; there = o.there; costs = o.costs }) (o.leads, leads)
                (omega (arith, costs, o.sum)) in
                record {
                  whole = w.whole;
                  leads = w.leads;
                  costs = w.costs;
                  visits = w.visits ∙ ap (λ (l : List N). start ∷ l) (sym (reverse_first u nodes (map (λ (s : N × ℕ). s.0) walk)) ∙ ap (λ (x : N). reverse (x ∷ nodes) ++ map (λ (s : N × ℕ). s.0) walk) (sym node));
                }
          ]
        ]

    -- the nodes read are a way to the node taken last
    pub way_read : (way : List N) (node : N) (cost number : ℕ) → IsReadOff t.names t.reached taken way → slice_get taken (length taken - 1) ≡ Some number → slice_get t.names number ≡ Some node →
        CostsAt t.reached number cost → says node true → IsWayToGoal edge says start way cost
    way_read way node cost number read at there costs accepted =
        let first = start_at read.first read.how read.begins in
        let w = whole_of read.nodes (length taken - 1) node costs.how [] cost node read.back (record { number = number; at = at; there = there; costs = costs.there }) refl (omega (arith, costs.is)) in
        record {
          goal = node;
          walk = w.whole;
          leads = w.leads;
          costs = w.costs;
          visits = read.is ∙ ap (λ (x : N). x ∷ reverse read.nodes) (sym first.0) ∙ sym (append-nil (start ∷ reverse read.nodes)) ∙ sym w.visits;
          accepted = accepted;
        }

    -- nodes taken at two places aren't equal
    taken_apart : (p q : ℕ) (v w : N) (how was : Reached) → p ≢ q → IsTaken t.names t.reached taken p v how → IsTaken t.names t.reached taken q w was → eq v w ≡ false
    taken_apart p q v w how was ne x y =
        apart_at E t.names S.unique x.number y.number v w (λ is. ne (S.once p q x.number x.at (y.at ∙ ap (λ (n : ℕ). Some n) (sym is)))) x.there y.there

    -- nor is one taken later equal to one of those read
    apart_later : (nodes : List N) (k p : ℕ) (v first : N) (how was : Reached) → k < p → IsTaken t.names t.reached taken p v how → IsTaken t.names t.reached taken 0 first was →
        AreReadBack t.names t.reached taken k nodes 0 → AllByRecursion (λ y. eq v y ≡ false) (nodes ++ first ∷ [])
    apart_later [] k p v first how was later x begins back = (taken_apart p 0 v first how was (λ e. omega (arith, e, later)) x begins, tt)
    apart_later (u ∷ nodes) k p v first how was later x begins back =
        let y = back.1 in
        elim (S.order k y.number back.0 y.at y.costs) [
          | inl q ↦ absurd (back.2 q.0)
          | inr q ↦ (
            taken_apart p k v u how back.0 (λ e. omega (arith, e, later)) x y,
            apart_later nodes back.0.before p v first how was (omega (arith, later, q.0)) x begins back.3,
          )
        ]

    read_distinct : (nodes : List N) (k : ℕ) (first : N) (was : Reached) → IsTaken t.names t.reached taken 0 first was → AreReadBack t.names t.reached taken k nodes 0 →
        IsDistinct eq (nodes ++ first ∷ [])
    unfolding IsDistinct
    read_distinct [] k first was begins back = IsDistinct-cons eq first [] tt tt
    read_distinct (u ∷ nodes) k first was begins back =
        let y = back.1 in
        elim (S.order k y.number back.0 y.at y.costs) [
          | inl q ↦ absurd (back.2 q.0)
          | inr q ↦ IsDistinct-cons eq u (nodes ++ first ∷ []) (apart_later nodes back.0.before k u first back.0 was q.0 y begins back.3) (read_distinct nodes back.0.before first was begins back.3)
        ]

    pub way_distinct : (way : List N) → IsReadOff t.names t.reached taken way → IsDistinct eq way
    way_distinct way read =
        let d = read_distinct read.nodes (length taken - 1) read.first read.how read.begins read.back in
        let is : way ≡ reverse (read.nodes ++ read.first ∷ []) = read.is ∙ sym (reverse-append read.nodes (read.first ∷ [])) in
        subst (λ (l : List N). IsDistinct eq l) (sym is)
        (IsDistinct-IsPermutation eq E.symm (read.nodes ++ read.first ∷ []) (reverse (read.nodes ++ read.first ∷ [])) (IsPermutation-reverse (read.nodes ++ read.first ∷ [])) d)
