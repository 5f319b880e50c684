-- No code runs: the borrow opens and closes again, with another ghost value.
use Rattle.dary_heap.proofs.hole.Walks.{◌++◌, [], ◌∷◌, refl, proved, id⊢, ftrue, flft, named, vunit, ‵, ◌⊛◌, ◌$◌, ◌∵◌, !, qed, move, keep, use1, split, join, fsplit, fsplit3, fjoin, fjoin3, feq_i}
use Rattle.dary_heap.proofs.hole.Walks.{suffices, done, enter, of_opd, unit_lit, returns, alloc_all, pass_all, free_all, look_at, sets, RefOf, yes, mut_vals, mut_Tells, shr_vals, shr_Tells, owns}
use Rattle.dary_heap.proofs.hole.Walks.{plain, types_at, nothing, opens, closes, Stays, walk_of, stay_dropped, Goes-dropped, stay_ref, Goes-ref, ends_at, says_two}
use Rattle.dary_heap.proofs.Common.{Work}
use Rattle.dary_heap.specs.contracts.shortest_path.Edge.{the_row as Edge}
use Rattle.dary_heap.specs.contracts.shortest_path.work.Work.{the_row as R}
use Rattle.dary_heap.specs.contracts.shortest_path.work.Work.add_edge as f
use Rattle.dary_heap.proofs.shortest_path.work.Work.add_edge.Statement.{statement}
use Rattle.dary_heap.proofs.shortest_path.work.Work.add_edge.Code as code

abbrev stayed : Stays f.ended.signature.params f.ended.kept
stayed = (stay_ref (0 ∷ []) tt (plain (λ _. R)), (stay_dropped (RefOf (1 ∷ []) tt (plain (λ _. Edge)) (λ _. tt)) yes, tt))

pub add_edge_spec : {M : Type 1} → statement M
add_edge_spec 𝓤 𝓛 𝓜 𝓡 wired =
    let c = f.clauses 𝓛 𝓜.mem 𝓡.returns in let W = walk_of 𝓛 f.ended stayed c in
    proved 𝓛 f.ended stayed c 𝓜 𝓡 (Goes-ref 𝓛 2 0 tt (plain (λ _. R)), (Goes-dropped 𝓛 2 (RefOf (1 ∷ []) tt (plain (λ _. Edge)) (λ _. tt)) yes (λ κs x f. refl), tt))
    f.Key.name code.function (code.unfolded 𝓤 𝓛.H 𝓜 𝓡 wired)
    (λ κs. (mut_vals, (shr_vals, tt))) (λ κs. (mut_Tells (named 0) κs.0 R, (shr_Tells (named 1) κs.1.0 Edge, tt))) (λ κs qs bounds a _ are.
    let b = a.0.ref_ptr.0 in let o = a.0.ref_ptr.1 in let h = a.0.now in let vs = mut_vals a.0 in
    let next : Work = record { examined = h.examined ++ a.1.0.now ∷ []; pushes = h.pushes } in
    let y : W.Ghost = ((κs, qs, bounds, a, (vs, (shr_vals a.1.0, tt))), tt) in
    qed 𝓛 (((‵ (flft κs.0 qs.0) ⊛ ‵ (flft κs.1.0 qs.1.0) ⊛ ‵ ftrue) ⊛ ‵ (owns (types_at f.signature.params κs) a y.0.4)) ∷ ‵ ftrue ∷ []) ∵
    split ! $ split ! $ move ! (2 ∷ []) $ fsplit ! $ keep ! (0 ∷ 2 ∷ 3 ∷ []) $
    enter ! _ _ _ _ _ $ alloc_all ! (λ l. pass_all ! refl ((tt, tt), ((tt, tt), tt)) $
    fsplit3 ! $ move ! (1 ∷ 2 ∷ 3 ∷ []) $ opens ! tt R b o (λ us.
    sets ! (of_opd ! (unit_lit !)) refl (tt, tt) $
    move ! (1 ∷ []) $ use1 𝓛 (‵ (R.own_val next us)) (id⊢ 𝓤 _) $ move ! (1 ∷ 0 ∷ []) $
    closes ! tt R next us b o $
    returns ! (look_at ! 0 refl) $ free_all ! refl $ move ! (3 ∷ []) $
    suffices ! _ (ends_at 𝓛 f.ended stayed c y vunit tt (next, (tt, tt)) (tt, (tt, tt))) $ says_two ! (refl, refl) $
    fjoin3 ! $ nothing ! $ nothing ! $ fjoin ! $ move ! (1 ∷ 0 ∷ []) $ fjoin ! $ move ! (1 ∷ 2 ∷ []) $ join ! $
    feq_i ! _ (vunit ∷ []) _ refl $ keep ! (1 ∷ 2 ∷ 0 ∷ []) $ done !)))
