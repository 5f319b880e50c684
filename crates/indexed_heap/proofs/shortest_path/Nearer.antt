-- The nodes that are nearer than the goal: what a search found for each is its least cost.
use Rattle.dary_heap.proofs.Common.{◌≡◌, ℕ, ◌<◌, ◌≤◌, List, [], ◌∷◌, Contains, arith, get_or, Graph, IsLeastCost, IsSameBag}
use Rattle.dary_heap.proofs.Bags.{holds_none}
use Rattle.dary_heap.proofs.shortest_path.Searching.{IsSearch, all_found, bound, bounded, found_least, taken}
use Rattle.dary_heap.specs.declared.shortest_path.State.{State}
use Rattle.indexed_heap.specs.Ways.{FindsNearer}

module _ {limit : ℕ} {g : Graph} {start goal : ℕ} {found : List ℕ} where
  -- no cost found is below the least one
  exact : {waiting : List State} → IsSearch limit g start goal found waiting → (v c : ℕ) → IsLeastCost g start v c → get_or found v limit < limit → get_or found v limit ≤ c → get_or found v limit ≡ c
  exact S v c least some upper = let r = S.reached v some in omega (arith, upper, least.least r.walk r.leads, r.costs)

  -- where no state waits
  pub nearer_all : IsSearch limit g start goal found [] → FindsNearer limit g start goal found
  nearer_all S v c least nearer =
      let some = all_found S least.walk v least.leads in
      let upper : get_or found v limit ≤ c = omega (arith, bounded S limit (omega arith) (λ x h. absurd (holds_none x h)) least.walk start v 0 (omega (arith, S.begun)) least.leads, some, least.costs) in
      let is = exact S v c least some upper in
      (is, omega (arith, is, some))

  -- where the state that is taken is at the goal
  pub nearer_goal : {waiting : List State} {s : State} {rest : List State} (S : IsSearch limit g start goal found waiting) (bag : IsSameBag waiting (s ∷ rest)) →
      ((x : State) → Contains waiting x → s.cost ≤ x.cost) → s.position ≡ goal → FindsNearer limit g start goal found
  nearer_goal {s = s} S bag low ends_at v c least nearer =
      let goal_least = found_least S bag low ends_at in
      let under : c < s.cost = omega (arith, nearer goal_least.walk goal_least.leads, goal_least.costs) in
      let upper : get_or found v limit ≤ c = omega (arith, bound S bag low least.walk v least.leads, least.costs, under) in
      let some : get_or found v limit < limit = omega (arith, (taken S bag).below, upper, under) in
      let is = exact S v c least some upper in
      (is, omega (arith, is, some))
