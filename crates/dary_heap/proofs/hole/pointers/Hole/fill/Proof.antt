-- `fill` writes the item into the empty place, at any item type. Assumes `Logic`.
use Rattle.dary_heap.proofs.hole.{ℕ, ◌+◌, ◌*◌, ◌<◌, ◌^◌, Bool, true, List, [], ◌∷◌, ◌++◌, ◌≡◌, refl, sym, subst, ◌∙◌, arith, length, set, length-set, Ura, ftrue, froom, flft, inst_fn, Fn, w64, Val}
use Rattle.dary_heap.proofs.hole.{vint, Model, WpFn, ◌⊑◌, Fun, fact, Running, tables, Logic, ‵, raw, ◌⊛◌, prop, at_ret, ◌$◌, ◌∵◌, !, qed, move, keep, drop, use1, use3, split, fsplit, fsplit3}
use Rattle.dary_heap.proofs.hole.{rewrite, group, regoal, suffices, done, whole, sub, agg, init, stop, fld, size_lit, of_opd, bin, and_then, no_more, assigns, first, blocks, exec, returns, enter}
use Rattle.dary_heap.proofs.hole.{alloc_all, pass_all, free_all, look_at, get, get_in, through, sets, sets_last, env, usize, yes, no, layout, one_value, uint_vals, owns, block_ptr, plain, types_at}
use Rattle.dary_heap.proofs.hole.{heard, nothing, Clauses, Ended, Stays, stay_dropped, Goes-dropped, walk_of, ends_at, proved_at, says_two, El, R, args, el_x, elτ, Good, lawful, after, sz, besides}
use Rattle.dary_heap.proofs.hole.{room_out, value_in, slots, two_words, words, words_fit, Hollow, filled_again, many_marks, hollow_tells, size_fits, offset_fits, row_found, row_in}
use Rattle.dary_heap.specs.hole.Slots.{all_filled, filled_but}
use Rattle.dary_heap.specs.declared.hole.pointers.Hole.{Hole}
use Rattle.dary_heap.specs.declared.hole.pointers.Slots.{Slots}
use Rattle.dary_heap.specs.contracts.hole.pointers.Hole.fill.Key.{name}
use Rattle.dary_heap.proofs.hole.WalksAt.{Walk}
use Rattle.dary_heap.proofs.hole.pointers.Hole.fill.Statement.{statement}
use Rattle.dary_heap.specs.contracts.hole.pointers.Hole.fill as f
use Rattle.dary_heap.proofs.hole.pointers.Hole.fill.Code as code

module _ (E : El) where
  abbrev body : Fn
  body = inst_fn (args E) code.function

  abbrev spent : Ended
  spent = f.ended E.row

  abbrev left : Stays spent.signature.params spent.kept
  left = (stay_dropped (plain (λ _. Hollow E)) no, (stay_dropped (plain (λ _. usize)) yes, (stay_dropped (plain (λ _. R E)) no, tt)))

  module _ {M : Type 1} {𝓤 : Ura M} (𝓛 : Logic 𝓤) (𝓜 : Model 𝓤 𝓛.H) (𝓡 : Running 𝓤 𝓛.H 𝓜) where
    abbrev c : Clauses 𝓤 spent
    c = f.clauses E.row 𝓛 𝓜.mem 𝓡.returns

    abbrev run : Fun 𝓤
    run = let 𝓣 = tables 𝓤 𝓛.H 𝓜 𝓡 𝓡.env in WpFn 𝓤 𝓛.H 𝓣.C 𝓣.Λ body

    walk : (y : (walk_of 𝓛 spent left c).Ghost) → y.0.3.1.0 < 2 ^ 64 → (v : Val) → Good E v → Walk 𝓛 spent left c run y (words y.0.3.0.ptr y.0.3.0.len, (uint_vals w64 y.0.3.1.0, (v ∷ [], tt)))
    walk y fits v gv =
        let κs = y.0.0 in let h : Hole (el_x E) = y.0.3.0 in let n : ℕ = h.len in let xs : List (el_x E) = h.items in let i : ℕ = y.0.3.1.0 in let x : el_x E = y.0.3.1.1.0 in
        let W = walk_of 𝓛 spent left c in let 𝓣 = tables 𝓤 𝓛.H 𝓜 𝓡 𝓡.env in
        let z : W.Ghost = ((κs, y.0.1, y.0.2, y.0.3, (words h.ptr n, (uint_vals w64 i, (v ∷ [], tt)))), y.1) in
        qed 𝓛 (((‵ (flft κs.0 y.0.1.0) ⊛ ‵ ftrue) ⊛ ‵ (owns (types_at spent.signature.params κs) z.0.3 z.0.4)) ∷ (raw (fact 𝓤 (κs.0 ⊑ E.row.lives)) ⊛ raw (fact 𝓤 (i ≡ h.at))) ∷ []) ∵
        move ! (1 ∷ []) $ split ! $ drop ! $ heard ! (i ≡ h.at) (λ here. split ! $ move ! (1 ∷ []) $ fsplit3 ! $ move ! (2 ∷ []) $ fsplit ! $ keep ! (2 ∷ 0 ∷ 4 ∷ []) $
        row_found E ! h.ptr n xs (filled_but n h.at) _ (λ b o at is room.
        let fs : List Bool = filled_but n i in let count : n ≡ length xs = h.ok.0 in let marks : length fs ≡ n = many_marks n i in let low : h.at < n = h.ok.1 in
        let i_n : i < n = omega arith in let i_xs : i < length xs = omega arith in let i_fs : i < length fs = omega arith in
        let one : sz E < 2 ^ 64 = size_fits E n i i_n room in let reach : i * sz E < 2 ^ 64 = offset_fits E n i i_n room in
        let full : Slots (el_x E) = record { ptr = block_ptr b o; len = n; items = set xs i x; ok = count ∙ sym (length-set xs i x); small = room.0 } in
        rewrite ! 0 (λ (k : ℕ). ‵ (slots (R E) (block_ptr b o) xs (filled_but n k))) (sym here) refl $
        use1 𝓛 (‵ (froom (elτ E) b (i * sz E + o)) ⊛ ‵ (besides E b o xs fs i)) (room_out E 𝓛 b o xs fs i i_xs i_fs x) $ split ! $
        -- [the room; the other places; the item; the token]
        regoal ! (λ (us : List Val). prop (run (us ++ (vint w64 i ∷ v ∷ [])) (W.post z))) is refl $
        enter ! _ _ _ _ _ $ alloc_all ! (λ l. pass_all ! refl ((tt, words_fit b o n room.0), ((tt, record { fits = fits }), (gv, tt))) $
        sets ! (of_opd ! (get_in ! (fld ! refl (stop !)) (sub ! 0 refl (whole !)))) refl (tt, tt) $
        sets ! (of_opd ! (get_in ! (fld ! refl (stop !)) (sub ! 1 refl (whole !)))) refl (tt, record { fits = room.0 }) $
        first ! $ blocks ! $
        sets ! (bin ! (get ! refl) (size_lit ! (record { fits = one })) (record { fits = reach })) refl (tt, record { fits = reach }) $
        sets ! (bin ! (get ! refl) (get ! refl) tt) refl (tt, tt) $ sets ! (of_opd ! (get ! refl)) refl gv $
        assigns ! (of_opd ! (get ! refl)) (through ! refl (stop !)) (init ! 0 refl gv) $
        sets_last ! (agg ! (and_then ! (get ! refl) (and_then ! (get ! refl) (no_more !)))) refl (tt, words_fit b o n room.0) $
        exec ! 𝓣.C 𝓣.Λ (env body.locals l) (after 3 body.body) (at_ret _ (W.post z)) $ sets ! (of_opd ! (get ! refl)) refl (tt, words_fit b o n room.0) $
        move ! (0 ∷ 2 ∷ 1 ∷ []) $ use3 𝓛 (‵ (slots (R E) (block_ptr b o) (set xs i x) (set fs i true))) (value_in E 𝓛 b o xs fs i i_xs i_fs x v) $
        rewrite ! 0 (λ (gs : List Bool). ‵ (slots (R E) (block_ptr b o) (set xs i x) gs)) (filled_again n i i_n) refl $
        row_in E ! b o n (set xs i x) (all_filled n) room $ returns ! (look_at ! 0 refl) $ free_all ! refl $
        suffices ! _ (ends_at 𝓛 spent left c z (two_words (block_ptr b o) n) full (tt, (tt, (tt, tt))) (tt, (tt, (tt, tt)))) $ says_two ! (sym at, refl) $
        nothing ! $ nothing ! $ nothing ! $ nothing ! $ group ! 4 $ move ! (2 ∷ 0 ∷ 1 ∷ []) $ group ! 3 $ done !)))

pub fill_spec : {M : Type 1} → statement M
fill_spec 𝓤 𝓛 𝓜 𝓡 wired X L =
    let E : El = record { row = X; laws = L } in let Goes = Walk 𝓛 (spent E) (left E) (c E 𝓛 𝓜 𝓡) (run E 𝓛 𝓜 𝓡) in
    proved_at 𝓛 (spent E) (left E) (c E 𝓛 𝓜 𝓡) 𝓜 𝓡
    (Goes-dropped 𝓛 1 (plain (λ _. Hollow E)) no (λ _ _ _. refl), (Goes-dropped 𝓛 1 (plain (λ _. usize)) yes (λ _ _ _. refl), (Goes-dropped 𝓛 1 (plain (λ _. R E)) no (λ _ _ _. refl), tt)))
    (name (args E)) (body E) (code.unfolded 𝓤 𝓛.H 𝓜 𝓡 wired (X, tt)) (λ y are.
    one_value (layout X) (λ us. Goes y (y.0.4.0, (y.0.4.1.0, (us, tt)))) y.0.4.1.1.0 ((lawful E 𝓛).typed y.0.3.1.1.0 _ are.1.1.0) (λ v gv.
    subst (λ vs. Goes y (vs, (y.0.4.1.0, (v ∷ [], tt)))) (sym (hollow_tells E y.0.3.0 _ are.0))
    (subst (λ vs. Goes y (words y.0.3.0.ptr y.0.3.0.len, (vs, (v ∷ [], tt)))) (sym are.1.0.0) (walk E 𝓛 𝓜 𝓡 y are.1.0.1 v gv))))
