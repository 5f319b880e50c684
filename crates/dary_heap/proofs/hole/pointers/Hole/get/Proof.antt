-- `Hole::get` makes a `&` to the item at a place out of the pointer behind its own `&`.
use Rattle.dary_heap.proofs.hole.{◌≢◌, ◌≡◌, Bool, true, false, List, [], ◌∷◌, ◌+◌, ◌*◌, ◌<◌, ◌^◌, arith, length, get_or, ftrue, flft, fhide, Val, ‵, ◌⊛◌, ◌$◌, move, drop, use1, split, fsplit, flt_l}
use Rattle.dary_heap.proofs.hole.{Slot, plain, RefOf, usize, hidden_shr, in_a_block, Struct, shape, lent_out, slots_lent, El, R, Hollow, holds_other, many_marks, el_x, one_below, times_below, hd}
use Rattle.dary_heap.proofs.hole.{any-default, none_at_null, value_lent, sz, refl, Fn, w64, named, inst_fn, vptr, ◌⊑◌, fact, tables, yes, uint_vals, uint_Tells, owns, shr_vals, shr_Tells, types_at}
use Rattle.dary_heap.proofs.hole.{nothing, heard, Stays, stay_dropped, Goes-dropped, says, walk_of, ends_at, raw, at_ret, ◌∵◌, !, qed, join, fjoin, feq_i, suffices, done, enter, of_opd, bin}
use Rattle.dary_heap.proofs.hole.{size_lit, addr, load, look, fld, stop, first, blocks, exec, returns, alloc_all, pass_all, free_all, look_at, get, through, sets, sets_last, env, proved, args}
use Rattle.dary_heap.proofs.hole.{after, pointer_in, pointer_out}
use denote.Opens.{hide, unhide}
use Rattle.dary_heap.specs.hole.Slots.{filled_but}
use Rattle.dary_heap.proofs.hole.pointers.Hole.get.Statement.{statement}
use Rattle.dary_heap.specs.contracts.hole.pointers.Hole as C
use Rattle.dary_heap.specs.contracts.hole.pointers.Hole.get as F
use Rattle.dary_heap.proofs.hole.pointers.Hole.get.Code as code

module _ (E : El) where
  -- `&self`, of a function with that one lifetime beside the element type's
  abbrev by_ref : Slot 2
  by_ref = RefOf (0 ∷ []) tt (plain (λ _. Hollow E)) (λ _. tt)

  abbrev stays : Stays (F.ended E.row).signature.params (F.ended E.row).kept
  stays = (stay_dropped by_ref yes, (stay_dropped (plain (λ _. usize)) yes, tt))

  abbrev body : Fn
  body = inst_fn (args E) code.function

pub get_spec : {M : Type 1} → statement M
get_spec 𝓤 𝓛 𝓜 𝓡 wired T L =
    let E : El = record { row = T; laws = L } in let c = F.clauses T 𝓛 𝓜.mem 𝓡.returns in
    let 𝓣 = tables 𝓤 𝓛.H 𝓜 𝓡 𝓡.env in
    proved 𝓛 (F.ended T) (stays E) c 𝓜 𝓡 (Goes-dropped 𝓛 2 (by_ref E) yes (λ κs x w. refl), (Goes-dropped 𝓛 2 (plain (λ _. usize)) yes (λ κs x w. refl), tt))
    (F.Key.name (args E)) (body E) (code.unfolded 𝓤 𝓛.H 𝓜 𝓡 wired (T, tt))
    (λ κs. (shr_vals, (uint_vals w64, tt))) (λ κs. (shr_Tells (named 0) κs.0 (Hollow E), (uint_Tells w64, tt)))
    (λ κs qs bounds a g are.
    let d = a.0.now in let b = a.0.ref_ptr.0 in let o = a.0.ref_ptr.1 in let place = a.1.0 in
    let y : (walk_of 𝓛 (F.ended T) (stays E) c).Ghost = ((κs, qs, bounds, a, (shr_vals a.0, (uint_vals w64 place, tt))), g) in
    let Asks : Type 0 = (place < length d.items) × (place ≢ d.at) in
    qed 𝓛 (((‵ (flft κs.0 qs.0) ⊛ ‵ (flft κs.1.0 qs.1.0) ⊛ ‵ ftrue) ⊛ ‵ (owns (types_at (F.ended T).signature.params κs) a y.0.4)) ∷ (raw (fact 𝓤 (κs.1.0 ⊑ T.lives)) ⊛ raw (fact 𝓤 Asks)) ∷ []) ∵
    move ! (1 ∷ []) $ split ! $ drop ! $ heard ! Asks (λ asks.
    -- [the count; the pointer; the items; the tokens]
    split ! $ split ! $ move ! (2 ∷ []) $ fsplit ! $ move ! (1 ∷ []) $ drop ! $ fsplit ! $ drop ! $
    use1 𝓛 (‵ (hidden_shr (Struct (shape (C.the_type (R E)))) κs.0 (d.ptr, (d.len, tt)) b o) ⊛ ‵ (fhide (C.the_lent (R E) d d.ptr κs.0)))
    (lent_out 𝓛 (C.struct (R E)) (C.the_codes (el_x E) (R E).coded) (C.the_heap (R E)) (C.the_lent (R E)) κs.0 d b o) $
    split ! $ move ! (1 ∷ []) $ unhide ! $ fsplit ! $ flt_l ! (λ fit. move ! (1 ∷ []) $
    unhide ! $ fsplit ! $ move ! (1 ∷ []) $ drop ! $ fsplit ! $ hide ! $ move ! (1 ∷ []) $ fsplit ! $ hide ! $
    move ! (1 ∷ []) $ drop ! $ move ! (0 ∷ 1 ∷ 2 ∷ []) $ drop ! $ move ! (1 ∷ []) $
    -- an item x lies at each place but the empty one, at an offset in range
    let marks : List Bool = filled_but d.len d.at in
    let counted : length marks ≡ d.len = many_marks d.len d.at in
    let marked : place < length marks = omega (arith, d.ok.0, asks.0) in
    let filled : get_or marks place false ≡ true = holds_other d.len d.at place (omega (arith, d.ok.0, asks.0)) asks.1 in
    let top : el_x E = hd d.items (omega (arith, asks.0)) in let x : el_x E = get_or d.items place top in
    let size : sz E < 2 ^ 63 = one_below d.len (sz E) (2 ^ 63) (omega (arith, d.ok.0, asks.0)) fit in
    let offset : place * sz E < 2 ^ 63 = times_below place d.len (sz E) (2 ^ 63) (omega (arith, d.ok.0, asks.0)) fit in
    in_a_block ! d.ptr (λ p. slots_lent (R E) p d.items marks κs.0) (none_at_null E 𝓛 κs.0 d.items marks place asks.0 marked filled) (λ ib io starts.
    use1 𝓛 (‵ (hidden_shr (R E) κs.0 x ib (place * sz E + io))) (value_lent E 𝓛 κs.0 ib io d.items marks place top asks.0 marked filled) $ move ! (1 ∷ 2 ∷ []) $
    -- [the pointer; its lifetime's token; the item; the tokens]
    enter ! _ _ _ _ _ $ alloc_all ! (λ l. pass_all ! refl ((tt, tt), ((tt, record { fits = are.1.0.1 }), tt)) $
    first ! $ blocks ! $
    pointer_in ! tt d.ptr ib io starts b (o + 0) (λ q.
    sets ! (of_opd ! (load ! (through ! refl (fld ! refl (stop !))) (look ! 0 refl))) refl (tt, tt) $
    pointer_out ! tt d.ptr ib io starts b (o + 0) $
    sets ! (bin ! (get ! refl) (size_lit ! (record { fits = omega arith })) (record { fits = omega arith })) refl (tt, record { fits = omega arith }) $
    sets ! (bin ! (get ! refl) (get ! refl) tt) refl (tt, tt) $
    sets_last ! (addr ! (through ! refl (stop !))) refl (tt, tt) $
    exec ! 𝓣.C 𝓣.Λ (env (body E).locals l) (after 1 (body E).body) (at_ret _ ((walk_of 𝓛 (F.ended T) (stays E) c).post y)) $
    sets ! (of_opd ! (get ! refl)) refl (tt, tt) $ returns ! (look_at ! 0 refl) $ free_all ! refl $
    suffices ! _ (ends_at 𝓛 (F.ended T) (stays E) c y (vptr ib (place * sz E + io)) (record { ref_ptr = (ib, place * sz E + io); now = x }) (tt, (tt, tt))
    (tt, (tt, tt))) $ says ! (any-default d.items place top x asks.0) $
    move ! (0 ∷ 2 ∷ []) $ join ! $ nothing ! $ nothing ! $ fjoin ! $ nothing ! $ fjoin ! $ move ! (2 ∷ []) $
    feq_i ! (List Val) (vptr ib (place * sz E + io) ∷ []) _ refl $ fjoin ! $ move ! (2 ∷ 1 ∷ []) $ done !))))))
