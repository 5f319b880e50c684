-- What holds along a way, from node to node.
use Rattle.dary_heap.proofs.Common.{◌≡◌, ℕ, zero, suc, ◌+◌, ◌∙◌, List, [], ◌∷◌, map, Some, All, All-contains, All-from_recursion, Contains, arith, refl, sym, ap, subst, slice_get, slice_get_within}
use Rattle.dary_heap.proofs.Common.{Graph, HasEdge, IsWalk, IsDistinct, IsDistinct-head, nat_eq, nat_eq_equiv, true≢false, false}
use Rattle.dary_heap.proofs.Bags.{Contains-first, Contains-later}
use Rattle.dary_heap.specs.declared.shortest_path.Edge.{Edge}
use Rattle.std.proofs.lemmas.List.Elements.{All-cons, All-nil}
use Rattle.indexed_heap.specs.Ways.{IsWayOf}

abbrev end : Edge → ℕ
end e = e.node

module _ (g : Graph) where
  ends : (P : ℕ → Type 0) → ((u : ℕ) (e : Edge) → HasEdge g u e → P e.node) → (u : ℕ) (walk : List Edge) (v : ℕ) → IsWalk g u walk v → All P (map end walk)
  ends P each u [] v leads = All-nil P
  ends P each u (e ∷ walk) v leads = All-cons P e.node (map end walk) (each u e leads.0) (ends P each e.node walk v leads.1)

  joined : (start : ℕ) (walk : List Edge) (goal : ℕ) → IsWalk g start walk goal → (i u v : ℕ) → slice_get (start ∷ map end walk) i ≡ Some u → slice_get (start ∷ map end walk) (suc i) ≡ Some v →
      (e : Edge) × HasEdge g u e × (e.node ≡ v)
  joined start [] goal leads i u v here next = absurd (omega (arith, slice_get_within (start ∷ []) (suc i) v next))
  joined start (e ∷ walk) goal leads zero u v here next =
      let first : start ≡ u = (cc) in
      let ends_at : e.node ≡ v = (cc) in
      (e, subst (λ (x : ℕ). HasEdge g x e) first leads.0, ends_at)
  joined start (e ∷ walk) goal leads (suc i) u v here next = joined e.node walk goal leads.1 i u v here next

  last : (u : ℕ) (e : Edge) (walk : List Edge) (v : ℕ) → IsWalk g u (e ∷ walk) v → Contains (map end (e ∷ walk)) v
  last u e [] v leads = subst (Contains (e.node ∷ [])) leads.1 (Contains-first e.node [])
  last u e (d ∷ walk) v leads = Contains-later e.node (map end (d ∷ walk)) v (last e.node d walk v leads.1)

  alone : (start : ℕ) (walk : List Edge) → IsWalk g start walk start → IsDistinct nat_eq (start ∷ map end walk) → map end walk ≡ []
  alone start [] leads once = refl
  alone start (e ∷ walk) leads once =
      let rest = map end (e ∷ walk) in
      let others : All (λ (v : ℕ). nat_eq start v ≡ false) rest = All-from_recursion (λ (v : ℕ). nat_eq start v ≡ false) rest (IsDistinct-head nat_eq start rest once) in
      absurd (true≢false (sym (nat_eq_equiv.refl start) ∙ All-contains (λ (v : ℕ). nat_eq start v ≡ false) rest start others (last start e walk start leads)))

module _ {g : Graph} {start cost : ℕ} {nodes : List ℕ} where
  -- what holds of start, and of the node to which each edge leads, holds of each node of a way
  pub IsWayOf-all : {goal : ℕ} (P : ℕ → Type 0) → P start → ((u : ℕ) (e : Edge) → HasEdge g u e → P e.node) → IsWayOf g start goal nodes cost → All P nodes
  IsWayOf-all {goal} P first each way = subst (All P) (sym way.visits) (All-cons P start (map end way.walk) first (ends g P each start way.walk goal way.leads))

  -- an edge leads from each node of a way to the next
  pub IsWayOf-joined : {goal : ℕ} → IsWayOf g start goal nodes cost → (i u v : ℕ) → slice_get nodes i ≡ Some u → slice_get nodes (i + 1) ≡ Some v → (e : Edge) × HasEdge g u e × (e.node ≡ v)
  IsWayOf-joined {goal} way i u v here next =
      let next_at : slice_get nodes (suc i) ≡ Some v = subst (λ (k : ℕ). slice_get nodes k ≡ Some v) (omega arith) next in
      joined g start way.walk goal way.leads i u v (rw way.visits at here) (rw way.visits at next_at)

  -- a way from start to itself in which no node stands twice has no other node
  pub IsWayOf-alone : IsWayOf g start start nodes cost → IsDistinct nat_eq nodes → nodes ≡ start ∷ []
  IsWayOf-alone way once = way.visits ∙ ap (λ (l : List ℕ). start ∷ l) (alone g start way.walk way.leads (subst (λ (l : List ℕ). IsDistinct nat_eq l) way.visits once))
