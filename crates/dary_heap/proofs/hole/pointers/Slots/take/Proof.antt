-- `take` reads an item out of its place, at any item type. Assumes `Logic`.
use Rattle.dary_heap.proofs.hole.{ℕ, ◌+◌, ◌*◌, ◌<◌, ◌^◌, true, false, List, [], ◌∷◌, ◌++◌, ◌≡◌, refl, sym, arith, length, get_or, length-replicate, get_or-replicate, ftrue, fat, flft, full_share}
use Rattle.dary_heap.proofs.hole.{inst_fn, Fn, w64, Val, vint, vstruct, vcons, vnil, WpFn, ◌⊑◌, fact, tables, ‵, raw, ◌⊛◌, some, given, prop, at_ret, ◌$◌, ◌∵◌, !, qed, move, keep, drop, use1, use2}
use Rattle.dary_heap.proofs.hole.{split, split3, fsplit, fjoin, fjoin3, fpack, feq_i, group, pick, learn, regoal, suffices, done, whole, sub, agg, look, forget, stop, fld, load, size_lit, of_opd}
use Rattle.dary_heap.proofs.hole.{bin, and_then, no_more, first, blocks, exec, returns, enter, alloc_all, pass_all, free_all, look_at, get, get_in, through, sets, sets_last, env, usize, yes, no}
use Rattle.dary_heap.proofs.hole.{uint_vals, uint_Tells, Valss, mirs, owns, block_ptr, plain, types_at, heard, nothing, within, as_fields, tuple_type, Ended, Stays, stay_dropped, Goes-dropped}
use Rattle.dary_heap.proofs.hole.{walk_of, ends_at, proved, El, R, args, el_x, elτ, Good, hd, any-default, after, says_four, sz, besides, value_out, room_in, slots, two_words, words, words_fit}
use Rattle.dary_heap.proofs.hole.{Whole, Hollow, whole_tells, size_fits, offset_fits, row_found, row_in}
use denote.Struct.Declared.{shape}
use Rattle.dary_heap.specs.hole.Slots.{all_filled, filled_but}
use Rattle.dary_heap.specs.declared.hole.pointers.Hole.{Hole}
use Rattle.dary_heap.specs.declared.hole.pointers.Slots.{Slots}
use Rattle.dary_heap.specs.contracts.hole.pointers.Slots.take.Key.{name}
use Rattle.dary_heap.proofs.hole.pointers.Slots.take.Statement.{statement}
use Rattle.dary_heap.specs.contracts.hole.pointers.Slots.take as f
use Rattle.dary_heap.proofs.hole.pointers.Slots.take.Code as code

module _ (E : El) where
  abbrev body : Fn
  body = inst_fn (args E) code.function

  abbrev spent : Ended
  spent = f.ended E.row

  abbrev left : Stays spent.signature.params spent.kept
  left = (stay_dropped (plain (λ _. Whole E)) no, (stay_dropped (plain (λ _. usize)) yes, tt))

pub take_spec : {M : Type 1} → statement M
take_spec 𝓤 𝓛 𝓜 𝓡 wired X L =
    let E : El = record { row = X; laws = L } in
    let c = f.clauses X 𝓛 𝓜.mem 𝓡.returns in let W = walk_of 𝓛 (spent E) (left E) c in let 𝓣 = tables 𝓤 𝓛.H 𝓜 𝓡 𝓡.env in
    proved 𝓛 (spent E) (left E) c 𝓜 𝓡 (Goes-dropped 𝓛 1 (plain (λ _. Whole E)) no (λ _ _ _. refl), (Goes-dropped 𝓛 1 (plain (λ _. usize)) yes (λ _ _ _. refl), tt))
    (name (args E)) (body E) (code.unfolded 𝓤 𝓛.H 𝓜 𝓡 wired (X, tt))
    (λ κs. ((λ d. words d.ptr d.len), (uint_vals w64, tt))) (λ κs. (whole_tells E, (uint_Tells w64, tt))) (λ κs qs bounds a _ are.
    let p : Slots (el_x E) = a.0 in let n : ℕ = p.len in let xs : List (el_x E) = p.items in let i : ℕ = a.1.0 in
    let y : W.Ghost = ((κs, qs, bounds, a, (words p.ptr n, (uint_vals w64 i, tt))), tt) in
    qed 𝓛 (((‵ (flft κs.0 qs.0) ⊛ ‵ ftrue) ⊛ ‵ (owns (types_at (spent E).signature.params κs) a y.0.4)) ∷ (raw (fact 𝓤 (κs.0 ⊑ X.lives)) ⊛ raw (fact 𝓤 (i < length xs))) ∷ []) ∵
    move ! (1 ∷ []) $ split ! $ drop ! $ heard ! (i < length xs) (λ within_xs. split ! $ move ! (1 ∷ []) $ fsplit ! $ keep ! (0 ∷ 2 ∷ []) $
    row_found E ! p.ptr n xs (all_filled n) _ (λ b o at is room.
    let count : n ≡ length xs = p.ok in let marks : length (all_filled n) ≡ n = length-replicate n true in
    let i_n : i < n = omega arith in let one : sz E < 2 ^ 64 = size_fits E n i i_n room in let reach : i * sz E < 2 ^ 64 = offset_fits E n i i_n room in
    let i_marks : i < length (all_filled n) = omega arith in
    let d : el_x E = hd xs (omega arith) in let x : el_x E = get_or xs i d in
    let rest : Hole (el_x E) = record { ptr = block_ptr b o; len = n; items = xs; at = i; ok = (count, i_n); small = room.0 } in
    regoal ! (λ (us : List Val). prop (WpFn 𝓤 𝓛.H 𝓣.C 𝓣.Λ (body E) (us ++ (vint w64 i ∷ [])) (W.post y))) is refl $
    use1 𝓛 (some (λ (v : Val). given (Good E v) (‵ (fat full_share (elτ E) b (i * sz E + o) v) ⊛ ‵ (X.own_val x (v ∷ [])) ⊛ ‵ (besides E b o xs (all_filled n) i))))
    (value_out E 𝓛 b o xs (all_filled n) i within_xs i_marks d (get_or-replicate n i true false i_n)) $
    pick ! (λ v. learn ! (λ gv. split3 ! $
    -- [the cell; the item; the other places; the token]
    enter ! _ _ _ _ _ $ alloc_all ! (λ l. pass_all ! refl ((tt, words_fit b o n room.0), ((tt, record { fits = are.1.0.1 }), tt)) $
    sets ! (of_opd ! (get_in ! (fld ! refl (stop !)) (sub ! 0 refl (whole !)))) refl (tt, tt) $
    sets ! (of_opd ! (get_in ! (fld ! refl (stop !)) (sub ! 1 refl (whole !)))) refl (tt, record { fits = room.0 }) $
    first ! $ blocks ! $
    sets ! (bin ! (get ! refl) (size_lit ! (record { fits = one })) (record { fits = reach })) refl (tt, record { fits = reach }) $
    sets ! (bin ! (get ! refl) (get ! refl) tt) refl (tt, tt) $
    sets ! (of_opd ! (load ! (through ! refl (stop !)) (look ! 0 refl))) refl gv $
    sets ! (agg ! (and_then ! (get ! refl) (and_then ! (get ! refl) (no_more !)))) refl (tt, words_fit b o n room.0) $
    sets ! (of_opd ! (get ! refl)) refl gv $
    let both : Val = vstruct (vcons (two_words (block_ptr b o) n) (vcons v vnil)) in
    let typed = as_fields (mirs (Hollow E ∷ R E ∷ [])) (two_words (block_ptr b o) n ∷ v ∷ []) ((tt, words_fit b o n room.0), (gv, tt)) in
    sets_last ! (agg ! (and_then ! (get ! refl) (and_then ! (get ! refl) (no_more !)))) refl typed $
    exec ! 𝓣.C 𝓣.Λ (env (body E).locals l) (after 3 (body E).body) (at_ret _ (W.post y)) $ sets ! (of_opd ! (get ! refl)) refl typed $
    forget ! 0 refl $ move ! (0 ∷ 2 ∷ []) $ use2 𝓛 (‵ (slots (R E) (block_ptr b o) xs (filled_but n i))) (room_in E 𝓛 b o xs (all_filled n) i within_xs i_marks d) $
    row_in E ! b o n xs (filled_but n i) room $ returns ! (look_at ! 0 refl) $ free_all ! refl $
    -- [the other places; the item; the token]
    suffices ! _ (ends_at 𝓛 (spent E) (left E) c y both (rest, x) (tt, (tt, tt)) (tt, (tt, tt))) $ says_four ! (sym at, refl, refl, any-default xs i d x within_xs) $
    nothing ! $ move ! (1 ∷ 2 ∷ 0 ∷ []) $ fjoin3 ! $ feq_i ! (List Val) (both ∷ []) (both ∷ []) refl $ fjoin ! $
    fpack ! (Valss (Hollow E ∷ R E ∷ [])) (within (shape (tuple_type (Hollow E ∷ R E ∷ []))) (rest, (x, tt)) (both ∷ [])) (words (block_ptr b o) n, (v ∷ [], tt)) $
    nothing ! $ nothing ! $ nothing ! $ group ! 3 $ move ! (2 ∷ 0 ∷ 1 ∷ []) $ group ! 3 $ done !))))))
