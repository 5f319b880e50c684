-- A walk at machine values that are spelled out, where a value of a type parameter is one machine value. Assumes `Logic`.
use Rattle.dary_heap.proofs.hole.Walks.{List, [], ◌∷◌, ◌≡◌, refl, Ura, ent, Val, Fun, Logic, Goal, Seq, Item, ‵, Is, shows, layout, one_value, peeks, Clauses, Ended, Vals, Stays, walk_of, El, R}
use Rattle.dary_heap.proofs.hole.Walks.{el_x, Good, lawful}

module _ {M : Type 1} {𝓤 : Ura M} (𝓛 : Logic 𝓤) (T : Ended) (hs : Stays T.signature.params T.kept) (c : Clauses 𝓤 T) (run : Fun 𝓤) where
  abbrev pub at_values : (y : (walk_of 𝓛 T hs c).Ghost) → Vals T.signature y.0.0 → (walk_of 𝓛 T hs c).Ghost
  at_values y vss = ((y.0.0, y.0.1, y.0.2, y.0.3, vss), y.1)

  abbrev pub Walk : (y : (walk_of 𝓛 T hs c).Ghost) → Vals T.signature y.0.0 → Type 1
  Walk y vss = let W = walk_of 𝓛 T hs c in let z : W.Ghost = at_values y vss in ent 𝓤 (W.pre z) (run (W.args z) (W.post z))

module _ (E : El) {M : Type 1} {𝓤 : Ura M} {𝓛 : Logic 𝓤} {K : Type 0} {Γ : List (Item 𝓤)} {G : Goal 𝓤 𝓛.H} where
  pub one_valued : K → (x : el_x E) (vs : List Val) → ((v : Val) → Good E v → vs ≡ v ∷ [] → Seq K 𝓛 (‵ (E.row.own_val x (v ∷ [])) ∷ Γ) G) → Seq K 𝓛 (‵ (E.row.own_val x vs) ∷ Γ) G
  one_valued t x vs k = peeks t (R E) (Is (R E)) (shows 𝓛 (R E)) x vs (λ is.
      one_value (layout E.row) (λ us. ((v : Val) → Good E v → us ≡ v ∷ [] → Seq K 𝓛 (‵ (E.row.own_val x (v ∷ [])) ∷ Γ) G) → Seq K 𝓛 (‵ (E.row.own_val x us) ∷ Γ) G) vs ((lawful E 𝓛).typed x vs is)
      (λ v gv then. then v gv refl) k)
