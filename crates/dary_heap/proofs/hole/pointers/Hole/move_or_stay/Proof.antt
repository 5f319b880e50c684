-- `move_or_stay` reads an item out of its place and writes it into the empty one, at any item type. What is empty then is by its argument. Assumes `Logic`.
use Rattle.dary_heap.proofs.hole.{ℕ, ◌+◌, ◌*◌, ◌<◌, ◌^◌, Bool, true, false, List, [], ◌∷◌, ◌≡◌, refl, sym, ap, ◌∙◌, arith, length, get_or, set, length-set, ftrue, fat, froom, flft, full_share}
use Rattle.dary_heap.proofs.hole.{inst_fn, Fn, w64, named, Val, vunit, vptr, ◌⊑◌, fact, tables, ‵, raw, ◌⊛◌, some, given, at_ret, ◌$◌, ◌∵◌, !, qed, move, keep, drop, use1, use2, use3, split, split3}
use Rattle.dary_heap.proofs.hole.{fsplit, fsplit3, feq_i, rewrite, group, pick, learn, suffices, done, whole, sub, look_in, look, init, forget, stop, fld, load, size_lit, unit_lit, of_opd, bin}
use Rattle.dary_heap.proofs.hole.{assigns_last, first, blocks, exec, returns, enter, alloc_all, pass_all, free_all, look_at, get, through, sets, env, usize, yes, uint_vals, uint_Tells, owns}
use Rattle.dary_heap.proofs.hole.{block_ptr, mut_vals, mut_Tells, plain, types_at, heard, nothing, Ended, Stays, stay_ref, stay_dropped, Goes-ref, Goes-dropped, walk_of, ends_at, ◌≢◌, proved}
use Rattle.dary_heap.proofs.hole.{says_four, El, R, args, el_x, elτ, Good, hd, any-default, after, sz, besides, value_out, value_in, room_out, room_in, slots, opens, closes, cell_at, Ptr, Hollow}
use lib.Seq.{set-set, set-get_or}
use Rattle.std.proofs.Common.{inl, inr}
use Rattle.std.proofs.lemmas.Bool.{cases_eq}
use Rattle.dary_heap.proofs.hole.{filled_but_other, holds_other, many_marks, size_fits, offset_fits, row_found, row_in, row_of, words}
use Rattle.dary_heap.specs.hole.Slots.{all_filled, filled_but}
use Rattle.dary_heap.specs.declared.hole.pointers.Hole.{Hole}
use Rattle.dary_heap.specs.contracts.hole.pointers.Hole.move_or_stay.Key.{name}
use Rattle.dary_heap.proofs.hole.pointers.Hole.move_or_stay.Statement.{statement}
use Rattle.dary_heap.specs.contracts.hole.pointers.Hole.move_or_stay as f
use Rattle.dary_heap.proofs.hole.pointers.Hole.move_or_stay.Code as code

module _ (E : El) where
  abbrev body : Fn
  body = inst_fn (args E) code.function

  abbrev moved : Ended
  moved = f.ended E.row

  abbrev left : Stays moved.signature.params moved.kept
  left = (stay_ref (0 ∷ []) tt (plain (λ _. Hollow E)), (stay_dropped (plain (λ _. usize)) yes, (stay_dropped (plain (λ _. usize)) yes, (stay_dropped (plain (λ _. usize)) yes, tt))))

pub move_or_stay_spec : {M : Type 1} → statement M
move_or_stay_spec 𝓤 𝓛 𝓜 𝓡 wired X L =
    let E : El = record { row = X; laws = L } in
    let c = f.clauses X 𝓛 𝓜.mem 𝓡.returns in let W = walk_of 𝓛 (moved E) (left E) c in let 𝓣 = tables 𝓤 𝓛.H 𝓜 𝓡 𝓡.env in
    let number = Goes-dropped 𝓛 2 (plain (λ _. usize)) yes (λ _ _ _. refl) in
    proved 𝓛 (moved E) (left E) c 𝓜 𝓡 (Goes-ref 𝓛 2 0 tt (plain (λ _. Hollow E)), (number, (number, (number, tt))))
    (name (args E)) (body E) (code.unfolded 𝓤 𝓛.H 𝓜 𝓡 wired (X, tt))
    (λ κs. (mut_vals, (uint_vals w64, (uint_vals w64, (uint_vals w64, tt))))) (λ κs. (mut_Tells (named 0) κs.0 (Hollow E), (uint_Tells w64, (uint_Tells w64, (uint_Tells w64, tt))))) (λ κs qs bounds a _ are.
    let h : Hole (el_x E) = a.0.now in let n : ℕ = h.len in let xs : List (el_x E) = h.items in let place : ℕ = a.1.0 in let at : ℕ = a.1.1.0 in let to : ℕ = a.1.1.1.0 in
    let rb : ℕ = a.0.ref_ptr.0 in let ro : ℕ = a.0.ref_ptr.1 in
    let y : W.Ghost = ((κs, qs, bounds, a, (mut_vals a.0, (uint_vals w64 place, (uint_vals w64 at, (uint_vals w64 to, tt))))), tt) in
    let Other : Type 0 = (place < length xs) × (place ≢ at) in let Either : Type 0 = to ≢ at → to ≡ place in
    qed 𝓛 (((‵ (flft κs.0 qs.0) ⊛ ‵ (flft κs.1.0 qs.1.0) ⊛ ‵ ftrue) ⊛ ‵ (owns (types_at (moved E).signature.params κs) a y.0.4)) ∷ (raw (fact 𝓤 (κs.1.0 ⊑ X.lives)) ⊛ raw (fact 𝓤 (at ≡ h.at)) ⊛ raw
    (fact 𝓤 Other) ⊛ raw (fact 𝓤 Either)) ∷ []) ∵
    move ! (1 ∷ []) $ split3 ! $ drop ! $ heard ! (at ≡ h.at) (λ here. split ! $ heard ! Other (λ other. heard ! Either (λ either.
    split ! $ split3 ! $ move ! (3 ∷ []) $ fsplit ! $ fsplit3 ! $ keep ! (1 ∷ 2 ∷ 4 ∷ 5 ∷ []) $
    enter ! _ _ _ _ _ $ alloc_all ! (λ l. pass_all ! refl ((tt, tt), ((tt, record { fits = are.1.0.1 }), ((tt, record { fits = are.1.1.0.1 }), ((tt, record { fits = are.1.1.1.0.1 }), tt)))) $
    -- the row, its two words, and the open borrow in three entries
    opens ! tt (Hollow E) {h = h} rb ro (λ us. move ! (1 ∷ []) $ row_found E ! h.ptr n xs (filled_but n h.at) us (λ b o is words_are room.
    rewrite ! 1 (λ (ws : List Val). ‵ (cell_at full_share (Hollow E).mir ws rb ro)) words_are refl $
    let d : el_x E = hd xs (omega (arith, other.0)) in let x : el_x E = get_or xs place d in
    let fs : List Bool = filled_but n at in let fs' : List Bool = set fs place false in let xs' : List (el_x E) = set xs at x in
    let count : n ≡ length xs = h.ok.0 in let low : h.at < n = h.ok.1 in let p_xs : place < length xs = other.0 in let marks : length fs ≡ n = many_marks n at in
    let marks' : length fs' ≡ length fs = length-set fs place false in
    let at_n : at < n = omega arith in let p_n : place < n = omega arith in let p_fs : place < length fs = omega arith in let at_xs : at < length xs = omega arith in
    let at_fs : at < length fs' = omega arith in
    let one : sz E < 2 ^ 64 = size_fits E n at at_n room in let reach : at * sz E < 2 ^ 64 = offset_fits E n at at_n room in let from : place * sz E < 2 ^ 64 = offset_fits E n place p_n room in
    let new : Hole (el_x E) = record { ptr = h.ptr; len = n; items = xs'; at = place; ok = (count ∙ sym (length-set xs at x), p_n); small = h.small } in
    rewrite ! 0 (λ (k : ℕ). ‵ (slots (R E) (block_ptr b o) xs (filled_but n k))) (sym here) refl $
    use1 𝓛 (some (λ (v : Val). given (Good E v) (‵ (fat full_share (elτ E) b (place * sz E + o) v) ⊛ ‵ (X.own_val x (v ∷ [])) ⊛ ‵ (besides E b o xs fs place))))
    (value_out E 𝓛 b o xs fs place p_xs p_fs d (holds_other n at place p_n other.1)) $
    pick ! (λ v. learn ! (λ gv. split3 ! $
    -- [the cell of the item that moves, and the item; the rest of the slice; pointer and length; three entries of the open borrow; a token]
    first ! $ blocks ! $
    sets ! (of_opd ! (load ! (through ! refl (fld ! refl (stop !))) (look_in ! 3 (sub ! 0 refl (whole !))))) refl (tt, tt) $
    sets ! (bin ! (get ! refl) (size_lit ! (record { fits = one })) (record { fits = reach })) refl (tt, record { fits = reach }) $
    sets ! (bin ! (get ! refl) (get ! refl) tt) refl (tt, tt) $
    sets ! (of_opd ! (load ! (through ! refl (fld ! refl (stop !))) (look_in ! 3 (sub ! 0 refl (whole !))))) refl (tt, tt) $
    sets ! (bin ! (get ! refl) (size_lit ! (record { fits = one })) (record { fits = from })) refl (tt, record { fits = from }) $
    sets ! (bin ! (get ! refl) (get ! refl) tt) refl (tt, tt) $
    sets ! (of_opd ! (load ! (through ! refl (stop !)) (look ! 0 refl))) refl gv $
    elim (cases_eq to at) [
      -- the item is put back, and the copy is forgotten
      | inl same ↦
          let as_before : set fs place true ≡ fs = ap (set fs place) (sym (holds_other n at place p_n other.1)) ∙ set-get_or fs place false in
          let empty : set fs at false ≡ filled_but n to = set-set (all_filled n) at false false ∙ ap (filled_but n) (sym same) in
          let new : Hole (el_x E) = record { ptr = h.ptr; len = n; items = xs; at = to; ok = (count, omega arith); small = h.small } in
          use3 𝓛 (‵ (slots (R E) (block_ptr b o) (set xs place x) (set fs place true))) (value_in E 𝓛 b o xs fs place p_xs p_fs x v) $
          rewrite ! 0 (λ (ys : List (el_x E)). ‵ (slots (R E) (block_ptr b o) ys (set fs place true))) (set-get_or xs place d) refl $
          rewrite ! 0 (λ (gs : List Bool). ‵ (slots (R E) (block_ptr b o) xs gs)) as_before refl $
          use1 𝓛 (‵ (froom (elτ E) b (at * sz E + o)) ⊛ ‵ (besides E b o xs fs at)) (room_out E 𝓛 b o xs fs at at_xs (omega arith) x) $ split ! $
          assigns_last ! (of_opd ! (get ! refl)) (through ! refl (stop !)) (init ! 0 refl gv) $
          exec ! 𝓣.C 𝓣.Λ (env (body E).locals l) (after 1 (body E).body) (at_ret _ (W.post y)) $ sets ! (of_opd ! (unit_lit !)) refl (tt, tt) $
          forget ! 0 refl $ use2 𝓛 (‵ (slots (R E) (block_ptr b o) xs (set fs at false))) (room_in E 𝓛 b o xs fs at at_xs (omega arith) d) $
          rewrite ! 0 (λ (gs : List Bool). ‵ (slots (R E) (block_ptr b o) xs gs)) empty refl $
          row_in E ! b o n xs (filled_but n to) room $ rewrite ! 0 (λ (p : Ptr). ‵ (row_of E p n xs (filled_but n to) (words (block_ptr b o) n))) (sym is) refl $
          move ! (1 ∷ 0 ∷ []) $ closes ! tt (Hollow E) new (words (block_ptr b o) n) rb ro $ returns ! (look_at ! 0 refl) $ free_all ! refl $
          -- [`self` without its address; its token; the last token]
          suffices ! _ (ends_at 𝓛 (moved E) (left E) c y vunit tt (new, (tt, (tt, (tt, tt)))) (tt, (tt, (tt, (tt, tt))))) $ says_four ! (refl, refl, (λ e. refl), (λ z e. absurd (other.1 (sym e ∙ same)))) $
          feq_i ! (List Val) (vptr rb ro ∷ []) _ refl $ move ! (0 ∷ 1 ∷ 2 ∷ []) $ group ! 3 $ nothing ! $ nothing ! $ nothing ! $ nothing ! $ move ! (4 ∷ 0 ∷ 1 ∷ 2 ∷ 3 ∷ []) $ group ! 5 $
          nothing ! $ move ! (2 ∷ 3 ∷ 0 ∷ []) $ group ! 3 $ feq_i ! (List Val) (vunit ∷ []) _ refl $ move ! (1 ∷ 2 ∷ 0 ∷ []) $ group ! 3 $ done !
      -- the place that the item leaves is empty before the other is filled
      | inr apart ↦
          let there : to ≡ place = either apart in
          let marks_are : set fs' at true ≡ filled_but n to = filled_but_other n at place at_n other.1 ∙ ap (filled_but n) (sym there) in
          let new : Hole (el_x E) = record { ptr = h.ptr; len = n; items = xs'; at = to; ok = (count ∙ sym (length-set xs at x), omega arith); small = h.small } in
          forget ! 0 refl $ move ! (0 ∷ 2 ∷ []) $ use2 𝓛 (‵ (slots (R E) (block_ptr b o) xs fs')) (room_in E 𝓛 b o xs fs place p_xs p_fs d) $
          use1 𝓛 (‵ (froom (elτ E) b (at * sz E + o)) ⊛ ‵ (besides E b o xs fs' at)) (room_out E 𝓛 b o xs fs' at at_xs at_fs x) $ split ! $
          assigns_last ! (of_opd ! (get ! refl)) (through ! refl (stop !)) (init ! 0 refl gv) $
          exec ! 𝓣.C 𝓣.Λ (env (body E).locals l) (after 1 (body E).body) (at_ret _ (W.post y)) $ sets ! (of_opd ! (unit_lit !)) refl (tt, tt) $
          move ! (0 ∷ 2 ∷ 1 ∷ []) $ use3 𝓛 (‵ (slots (R E) (block_ptr b o) xs' (set fs' at true))) (value_in E 𝓛 b o xs fs' at at_xs at_fs x v) $
          rewrite ! 0 (λ (gs : List Bool). ‵ (slots (R E) (block_ptr b o) xs' gs)) marks_are refl $
          row_in E ! b o n xs' (filled_but n to) room $ rewrite ! 0 (λ (p : Ptr). ‵ (row_of E p n xs' (filled_but n to) (words (block_ptr b o) n))) (sym is) refl $
          move ! (1 ∷ 0 ∷ []) $ closes ! tt (Hollow E) new (words (block_ptr b o) n) rb ro $ returns ! (look_at ! 0 refl) $ free_all ! refl $
          -- [`self` without its address; its token; the last token]
          suffices ! _ (ends_at 𝓛 (moved E) (left E) c y vunit tt (new, (tt, (tt, (tt, tt)))) (tt, (tt, (tt, (tt, tt))))) $ says_four ! (refl, refl, (λ e. absurd (apart e)), (λ z e. ap (set xs at) (any-default xs place d z p_xs))) $
          feq_i ! (List Val) (vptr rb ro ∷ []) _ refl $ move ! (0 ∷ 1 ∷ 2 ∷ []) $ group ! 3 $ nothing ! $ nothing ! $ nothing ! $ nothing ! $ move ! (4 ∷ 0 ∷ 1 ∷ 2 ∷ 3 ∷ []) $ group ! 5 $
          nothing ! $ move ! (2 ∷ 3 ∷ 0 ∷ []) $ group ! 3 $ feq_i ! (List Val) (vunit ∷ []) _ refl $ move ! (1 ∷ 2 ∷ 0 ∷ []) $ group ! 3 $ done !
    ])))))))))
