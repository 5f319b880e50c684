-- `with_slots` opens the slice, hands its places and the reference to `f`, and closes the slice at the places that come back. Assumes `Logic`.
use Rattle.dary_heap.proofs.hole.{ℕ, List, [], ◌∷◌, ◌++◌, ◌≡◌, refl, sym, subst, ap, ◌∙◌, length, Ura, ftrue, flft, emp, id⊢, inst_fn, Args, Dict, a_type, dnil, dcons, method, no_args, Val, vstruct}
use Rattle.dary_heap.proofs.hole.{of_list, Model, WpFn, ◌⊑◌, Lfts, fact, fact_i, Running, MachineTables, tables, Logic, ‵, raw, ◌⊛◌, some, later, ◌$◌, ◌∵◌, !, qed, move, keep, use0, use1, split}
use Rattle.dary_heap.proofs.hole.{split3, group, pick, fsplit, fsplit3, fpick, feq_l, suffices, await, done, whole, sub, agg, stop, fld, hop, from, addr, no_more, and_then, of_opd, returns, enter}
use Rattle.dary_heap.proofs.hole.{alloc_all, pass_all, free_all, look_at, look_in_at, get, get_in, through, sets, lands_as, no, Are, Ises, layout, bounded, param, one_value, RattleType, mirs, owns}
use Rattle.dary_heap.proofs.hole.{as_fields, block_ptr, MutBor, mut_vals, pure_i, plain, types_at, Room, slice_val, mut_slice_vals, mut_slice_at, heard, nothing, only, Tuple, Clauses, Ended, Lasts}
use Rattle.dary_heap.proofs.hole.{lasts, Vals, Stays, stay_slice, stay_dropped, gave_ref, Goes-slice, Goes-gave_ref, Goes-dropped, walk_of, ends_at, says, proved_at, El, R, el_x, Good, lawful, true}
use Rattle.dary_heap.proofs.hole.{◌<◌, ◌^◌, length-replicate, get_or-replicate, full_share, slots, of_row, to_row, Ptr, rewrite, two_words, words, words_fit, Whole, full_row, row_of, row_out}
use Rattle.dary_heap.proofs.hole.{row_in}
use denote.Triple.Call.{calls_at}
use denote.Triple.Entry.{Args as Passed}
use denote.Triple.Spec.{triple_of}
use denote.Triple.Statement.{Triple, Contract}
use denote.Triple.Table.{framed}
use Rattle.dary_heap.specs.hole.Hole.{IsSameSlice}
use Rattle.dary_heap.specs.declared.hole.pointers.Slots.{Slots}
use Rattle.dary_heap.specs.contracts.hole.with_slots.Key.{name}
use Rattle.dary_heap.proofs.hole.WalksAt.{Walk, one_valued}
use Rattle.dary_heap.proofs.hole.with_slots.Statement.{statement}
use denote.Index.{row as row_at, opens_slice, closes_slice}
use Rattle.dary_heap.specs.hole.Slots.{all_filled}
use denote.Param.Call as call
use Rattle.dary_heap.specs.contracts.hole.with_slots as f
use Rattle.dary_heap.specs.contracts.hole.with_slots.F-FnOnce as taken
use Rattle.dary_heap.proofs.hole.with_slots.Code as code

-- of an item type, the state, what `f` returns beside the places, and its own type
module _ (I S Y F : El) (g : taken.Ghosts I.row S.row Y.row F.row) (d d' : Dict) where
  abbrev at_types : Args
  at_types = bounded (a_type ∷ a_type ∷ a_type ∷ a_type ∷ []) (I.row, (S.row, (Y.row, (F.row, tt)))) (dcons d (dcons d' dnil))

  abbrev lent : Ended
  lent = f.ended I.row S.row Y.row F.row g d d'

  abbrev left : Stays lent.signature.params lent.kept
  left = (stay_slice (0 ∷ []) tt (plain (λ _. R I)), (gave_ref (1 ∷ []) tt (plain (λ _. param 1 S.row)), (stay_dropped (plain (λ _. param 3 F.row)) no, tt)))

  abbrev asked : Ended
  asked = taken.ended I.row S.row Y.row F.row

  abbrev Out : RattleType
  Out = Tuple (Whole I ∷ param 2 Y.row ∷ [])

  -- what `f` is known to do
  abbrev Asked : {M : Type 1} {𝓤 : Ura M} (𝓛 : Logic 𝓤) → Contract 𝓤
  Asked 𝓛 = triple_of 𝓛 asked.signature (call.spec asked 4 (λ κs. (κs.1.0, (κs.1.1.0, (κs.1.1.1.0, (κs.1.1.1.1.0, tt))))) (F.row.lives, (I.row.lives, (S.row.lives, (Y.row.lives, tt))))
      (taken.pair I.row S.row Y.row F.row g) (λ κs a. a) (λ κs r. r) (λ κs s. s) 𝓛)

  module _ {M : Type 1} {𝓤 : Ura M} (𝓛 : Logic 𝓤) (𝓜 : Model 𝓤 𝓛.H) (𝓡 : Running 𝓤 𝓛.H 𝓜) where
    abbrev c : Clauses 𝓤 lent
    c = f.clauses I.row S.row Y.row F.row g d d' 𝓛 𝓜.mem 𝓡.returns

    abbrev 𝓣 : MachineTables 𝓤 𝓛.H 𝓜
    𝓣 = tables 𝓤 𝓛.H 𝓜 𝓡 𝓡.env

    abbrev W : Contract 𝓤
    W = walk_of 𝓛 lent left c

    abbrev Goes : (y : W.Ghost) → Vals lent.signature y.0.0 → Type 1
    Goes = Walk 𝓛 lent left c (WpFn 𝓤 𝓛.H 𝓣.C 𝓣.Λ (inst_fn at_types code.function))

    module _ (does : Triple 𝓤 (𝓣.C (method d 0 no_args)) (Asked 𝓛)) where
      goes : (y : W.Ghost) → Room (R I) (length y.0.3.0.now) → (w : Val) → Good F w → Goes y (mut_slice_vals y.0.3.0, (mut_vals y.0.3.1.0, (w ∷ [], tt)))
      goes y room w gw =
          let κs = y.0.0 in let qs = y.0.1 in let a = y.0.3 in
          let b : ℕ = a.0.ref_ptr.0 in let o : ℕ = a.0.ref_ptr.1 in let xs : List (el_x I) = a.0.now in let fn : el_x F = a.1.1.0 in
          let z : W.Ghost = ((κs, qs, y.0.2, a, (mut_slice_vals a.0, (mut_vals a.1.0, (w ∷ [], tt)))), y.1) in
          let row : Slots (el_x I) = full_row I b o xs room in
          let Callable : Type 0 = (p : Slots (el_x I)) (s : MutBor (el_x S)) → p.items ≡ xs → s.now ≡ a.1.0.now → f.F-pre I.row S.row Y.row F.row g d d' fn p s in
          let Same : Type 0 =
          (p : Slots (el_x I)) (s : MutBor (el_x S)) (out : Out.Denot) (t : MutBor (el_x S)) → p.items ≡ xs → f.F-post I.row S.row Y.row F.row g d d' fn p s out t → IsSameSlice p out.0 in
          let κ = κs.1.0 in let τ₁ = κs.1.1.0 in let τ₂ = κs.1.1.1.0 in let τ₃ = κs.1.1.1.1.0 in let τ₄ = κs.1.1.1.1.1.0 in
          let q = qs.1.0 in let q₁ = qs.1.1.0 in let q₂ = qs.1.1.1.0 in let q₃ = qs.1.1.1.1.0 in let q₄ = qs.1.1.1.1.1.0 in
          let κs' : Lfts 5 = (κ, (τ₄, (τ₁, (τ₂, (τ₃, tt))))) in let given : Passed asked.signature κs' = (fn, (row, (a.1.0, tt))) in
          let Ready : Type 0 = g.pre fn (row, (a.1.0, tt)) in
          let now : Lasts asked κs' given → MutBor (el_x S) = λ ws. record { ref_ptr = a.1.0.ref_ptr; ghost_name = a.1.0.ghost_name; now = ws.1.1.0 } in
          let Gives : Out.Denot → Lasts asked κs' given → Type 0 = λ out ws. g.post fn (row, (a.1.0, tt)) (out, (now ws, tt)) in
          qed 𝓛 (((‵ (flft κs.0 qs.0) ⊛ ‵ (flft κ q) ⊛ ‵ (flft τ₁ q₁) ⊛ ‵ (flft τ₂ q₂) ⊛ ‵ (flft τ₃ q₃) ⊛ ‵ (flft τ₄ q₄) ⊛ ‵ ftrue) ⊛ ‵ (owns (types_at lent.signature.params κs) a z.0.4))
          ∷ (raw (fact 𝓤 (τ₁ ⊑ I.row.lives)) ⊛ raw (fact 𝓤 (τ₂ ⊑ S.row.lives)) ⊛ raw (fact 𝓤 (τ₃ ⊑ Y.row.lives)) ⊛ raw (fact 𝓤 (τ₄ ⊑ F.row.lives)) ⊛ raw (fact 𝓤 Callable) ⊛ raw (fact 𝓤 Same)) ∷ []) ∵
          split ! $ move ! (1 ∷ []) $ fsplit3 ! $ move ! (2 ∷ []) $ fsplit ! $ move ! (2 ∷ []) $ fsplit3 ! $
          move ! (6 ∷ []) $ split3 ! $ move ! (2 ∷ []) $ split3 ! $ move ! (2 ∷ []) $ split3 ! $
          move ! (13 ∷ []) $ split3 ! $ move ! (2 ∷ []) $ split3 ! $ move ! (2 ∷ []) $ split ! $
          heard ! Callable (λ callable. heard ! Same (λ same.
          -- what the call asks for: facts, then tokens
          use0 𝓛 (raw (fact 𝓤 Ready)) (fact_i 𝓤 Ready (emp 𝓤) (callable row a.1.0 refl refl)) $ move ! (2 ∷ 3 ∷ 4 ∷ 1 ∷ 0 ∷ []) $ group ! 5 $
          move ! (7 ∷ 2 ∷ 4 ∷ 5 ∷ 1 ∷ 3 ∷ []) $ group ! 6 $ keep ! (4 ∷ 5 ∷ 2 ∷ 6 ∷ 8 ∷ 0 ∷ 1 ∷ []) $
          enter ! _ _ _ _ _ $ alloc_all ! (λ l. pass_all ! refl ((tt, words_fit b o (length xs) room.0), ((tt, tt), (gw, tt))) $
          sets ! (of_opd ! (get_in ! (fld ! refl (stop !)) (sub ! 1 refl (whole !)))) refl (tt, record { fits = room.0 }) $
          sets ! (addr ! (from ! (fld ! refl (hop ! (look_in_at ! 1 (sub ! 0 refl (whole !))) (stop !))))) refl (tt, tt) $
          opens_slice ! tt (R I) xs b o $ use1 𝓛 (‵ (slots (R I) (block_ptr b o) xs (all_filled (length xs)))) (of_row I 𝓛 b xs o) $
          row_in I ! b o (length xs) xs (all_filled (length xs)) room $
          -- [the row; the slice's open borrow, in three entries; f; the reference; the tokens; the facts]
          sets ! (of_opd ! (get ! refl)) refl gw $
          sets ! (agg ! (and_then ! (get ! refl) (and_then ! (get ! refl) (no_more !)))) refl (tt, words_fit b o (length xs) room.0) $
          sets ! (addr ! (through ! refl (stop !))) refl (tt, tt) $
          let k : (Asked 𝓛).Ghost = ((κs', (q, (q₄, (q₁, (q₂, (q₃, tt))))), (y.0.2.1.0, tt), given, (w ∷ [], (words (block_ptr b o) (length xs), (mut_vals a.1.0, tt)))), tt) in
          nothing ! $ move ! (5 ∷ 1 ∷ 6 ∷ 0 ∷ []) $ group ! 4 $ move ! (4 ∷ 0 ∷ []) $ group ! 2 $ move ! (0 ∷ 4 ∷ []) $ group ! 2 $
          use1 𝓛 (raw ((Asked 𝓛).pre k)) (id⊢ 𝓤 _) $
          calls_at ! (framed 𝓤 𝓛.H 𝓜 𝓣) (Asked 𝓛) does k (and_then ! (get ! refl) (and_then ! (get ! refl) (and_then ! (get ! refl) (no_more !)))) (λ got.
          use1 𝓛 (later (some (λ (out : Out.Denot). ((‵ (flft κ q) ⊛ ‵ (flft τ₄ q₄) ⊛ ‵ (flft τ₁ q₁) ⊛ ‵ (flft τ₂ q₂) ⊛ ‵ (flft τ₃ q₃) ⊛ ‵ ftrue) ⊛ ‵ (Out.own_val out (got ∷ [])))
          ⊛ some (λ (ws : Lasts asked κs' given). ‵ (lasts asked κs' given ws) ⊛ raw (fact 𝓤 (Gives out ws)))))) (id⊢ 𝓤 _) $
          await ! tt $ pick ! (λ out. split ! $ move ! (1 ∷ []) $ pick ! (λ ws. split ! $ move ! (1 ∷ []) $ heard ! (Gives out ws) (λ gave.
          let back : Slots (el_x I) = out.0 in let kept : IsSameSlice row back = same row a.1.0 out (now ws) refl gave in
          move ! (1 ∷ []) $ split ! $ move ! (1 ∷ []) $ fpick ! (λ vss. fsplit ! $ feq_l ! (λ pair_is. fsplit3 ! $ move ! (0 ∷ 5 ∷ 6 ∷ 7 ∷ []) $
          -- the slice is closed at the row that comes back
          let n : ℕ = back.len in let many : length (all_filled n) ≡ n = length-replicate n true in
          rewrite ! 0 (λ (p : Ptr). ‵ (row_of I p n back.items (all_filled n) vss.0)) kept.slice refl $ row_out I ! b o n back.items (all_filled n) vss.0 (λ back_is room'.
          use1 𝓛 (‵ (row_at (R I) full_share back.items b o)) (to_row I 𝓛 b back.items (all_filled n) o (many ∙ back.ok)
          (λ i below. get_or-replicate n i true _ (subst (λ (m : ℕ). i < m) many below))) $
          closes_slice ! tt (R I) xs back.items kept.len b o $ let short : n < 2 ^ 64 = room'.0 in move ! (3 ∷ []) $ one_valued Y ! out.1 vss.1.0 (λ r gr result_is.
          -- [the result; the slice's borrow, in two entries; its token; nothing; the other tokens; the reference]
          let back_val : Val = two_words (block_ptr b o) back.len in
          lands_as ! (ap only pair_is ∙ (λ i. vstruct (of_list (back_is i ++ (result_is i ++ []))))) refl
          (as_fields (mirs (Whole I ∷ param 2 Y.row ∷ [])) (back_val ∷ r ∷ []) ((tt, words_fit b o back.len short), (gr, tt))) $
          sets ! (of_opd ! (get_in ! (fld ! refl (stop !)) (sub ! 0 refl (whole !)))) refl (tt, words_fit b o back.len short) $
          sets ! (of_opd ! (get_in ! (fld ! refl (stop !)) (sub ! 1 refl (whole !)))) refl gr $
          sets ! (of_opd ! (get ! refl)) refl gr $ returns ! (look_at ! 0 refl) $ free_all ! refl $
          suffices ! _ (ends_at 𝓛 lent left c z r out.1 (back.items, (ws.1.1.0, (tt, tt))) (kept.len, (tt, (tt, tt)))) $ says ! (row, a.1.0, back, now ws, refl, refl, gave, refl, refl) $
          move ! (5 ∷ []) $ split3 ! $ move ! (2 ∷ []) $ split3 ! $ move ! (2 ∷ []) $ split ! $ move ! (9 ∷ 4 ∷ 2 ∷ 3 ∷ 0 ∷ 5 ∷ 1 ∷ []) $ group ! 7 $
          pure_i ! (mut_slice_at (R I) (record { ref_ptr = (b, o); ghost_name = a.0.ghost_name; now = back.items }) (mut_slice_vals a.0)) (tt, (tt, tt))
          (ap (λ m. slice_val (b, o) m ∷ []) (sym kept.len), subst (Room (R I)) (sym kept.len) room) $
          move ! (0 ∷ 3 ∷ 4 ∷ []) $ group ! 3 $ move ! (4 ∷ []) $ fsplit3 ! $ move ! (2 ∷ []) $ fsplit ! $
          nothing ! $ move ! (5 ∷ 1 ∷ 0 ∷ 8 ∷ []) $ group ! 4 $ keep ! (4 ∷ 0 ∷ 5 ∷ []) $ group ! 3 $ done !)))))))))))

    pub entry : (does : Triple 𝓤 (𝓣.C (method d 0 no_args)) (Asked 𝓛)) (y : W.Ghost) → Are (types_at lent.signature.params y.0.0) (Ises (types_at lent.signature.params y.0.0)) y.0.3 y.0.4 →
        Goes y y.0.4
    entry does y are =
        one_value (layout F.row) (λ ws. Goes y (y.0.4.0, (y.0.4.1.0, (ws, tt)))) y.0.4.1.1.0 ((lawful F 𝓛).typed y.0.3.1.1.0 _ are.1.1.0) (λ w gw.
        subst (λ vs. Goes y (vs, (y.0.4.1.0, (w ∷ [], tt)))) (sym are.0.0.0)
        (subst (λ vs. Goes y (mut_slice_vals y.0.3.0, (vs, (w ∷ [], tt)))) (sym are.1.0.0) (goes does y are.0.0.1 w gw)))

pub with_slots_spec : {M : Type 1} → statement M
with_slots_spec 𝓤 𝓛 𝓜 𝓡 wired A B C D LA LB LC LD g d d' met _ =
    let i : El = record { row = A; laws = LA } in let s : El = record { row = B; laws = LB } in let y : El = record { row = C; laws = LC } in let h : El = record { row = D; laws = LD } in
    proved_at 𝓛 (lent i s y h g d d') (left i s y h g d d') (c i s y h g d d' 𝓛 𝓜 𝓡) 𝓜 𝓡
    (Goes-slice 𝓛 6 0 tt (plain (λ _. R i)), (Goes-gave_ref 𝓛 6 1 tt (plain (λ _. param 1 B)), (Goes-dropped 𝓛 6 (plain (λ _. param 3 D)) no (λ _ _ _. refl), tt)))
    (name (at_types i s y h g d d')) (inst_fn (at_types i s y h g d d') code.function) (code.unfolded 𝓤 𝓛.H 𝓜 𝓡 wired (A, (B, (C, (D, tt)))) d d')
    (entry i s y h g d d' 𝓛 𝓜 𝓡 met.1)
