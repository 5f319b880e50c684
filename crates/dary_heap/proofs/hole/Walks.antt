-- The names that walks cite.
pub use Prim.Native.Nat.{ℕ, ◌+◌, ◌*◌, ◌<◌, ◌^◌}
pub use mathlib.Core.Bool.{true, false, Bool}
pub use mathlib.Core.List.{List, [], ◌∷◌, ◌++◌}
pub use mathlib.Core.Path.{◌≡◌, refl, sym, subst, ◌∙◌, ap}
pub use native.Mathlib.Omega.{arith}
pub use lib.ListN.{length, get_or, length-replicate, get_or-replicate, set, length-set, replicate}
pub use seplogic.Ra.Ura.{Ura}
pub use base.Fml.{ftrue, fat, flft, froom, Lft, Incl, Incl-trans, Fml, fsep, fhide, flt}
pub use base.Fraction.{full_share}
pub use base.Logic.{emp, id⊢, ent, never}
pub use mir.MapTy.{inst_fn}
pub use mir.Syntax.{Fn, w64, named, Args, Dict, a_type, dnil, dcons, method, no_args}
pub use mir.Val.{Val, vint, vstruct, vcons, vnil, vptr, vunit, of_list, WT}
pub use prog.Model.{Model}
pub use prog.Wp.{WpFn}
pub use contract.BorrowLft.{◌⊑◌, meet_⊑_left}
pub use contract.Lifetimes.{Lfts}
pub use contract.Monad.{fact, Fun, fact_i}
pub use contract.Running.{tables, Running, MachineTables}
pub use types.ByLocal.{alloc_all, pass_all, free_all, look_at, get, get_in, through, sets, sets_last, env, look_in_at, lands_as}
pub use types.Kit.{‵, raw, ◌⊛◌, some, given, prop, at_ret, ◌$◌, ◌∵◌, !, qed, move, keep, drop, use1, use2, split, split3, fsplit, fjoin, fjoin3, fpack, feq_i, group, pick, learn, regoal, suffices}
pub use types.Kit.{done, use3, fsplit3, rewrite, join, later, use0, fpick, feq_l, await, Goal, Step, step, Seq, Item, flt_l, flt_i, frame}
pub use types.Logic.{Logic, sem}
pub use types.Part.{whole, sub, agg, look_in}
pub use types.Run.{look, forget, stop, fld, load, size_lit, of_opd, bin, and_then, no_more, first, blocks, exec, returns, enter, init, assigns, addr, unit_lit, assigns_last, hop, from}
pub use denote.Builtin.{usize, RefOf}
pub use denote.Exit.{yes, no}
pub use denote.Laws.{Are, Ises, Is, Tells, shows}
pub use denote.Memory.{cell_at, hidden_shr}
pub use denote.Param.{layout, bounded, param}
pub use denote.Param.Laws.{Laws}
pub use denote.Param.Steps.{one_value}
pub use denote.Plain.{uint_vals, uint_Tells}
pub use denote.RattleType.{Valss, mirs, owns, RattleType}
pub use denote.RawPtr.{block_ptr, Ptr, null_ptr, ptr_val, in_a_block, rawptr_vals, rawptr_Tells, in_block, ◌+ₚ◌}
pub use denote.Ref.{shr_vals, shr_Tells, mut_vals, mut_Tells, MutBor, MutRef}
pub use denote.Shadow.{pure_i}
pub use denote.Signature.{plain, types_at, Slot}
pub use denote.Slice.{Room, slice_val, mut_slice_vals, mut_slice_at}
pub use denote.Steps.{heard, nothing, only, facts, opens, closes, peeks}
pub use denote.Struct.Laws.{RawPtr-copy, usize-copy, RawPtr-laws, usize-laws}
pub use denote.Struct.Lending.{of_Lends, lent_out, Lends, Lends-both, Lends-false, Lends-lies, Lends-nothing, Lends-said, lent_at_shr_laws}
pub use denote.Struct.Owning.{shape}
pub use denote.Struct.Struct.{within, as_fields, Struct, Struct-Tells}
pub use denote.Struct.Tuple.{tuple_type, Tuple}
pub use denote.Triple.Clauses.{Ended, Clauses, Lasts, lasts}
pub use denote.Triple.Entry.{Vals, on_entry}
pub use denote.Triple.Walked.{Stays, stay_dropped, Goes-dropped, walk_of, ends_at, says, stay_ref, Goes-ref, stay_slice, gave_ref, Goes-slice, Goes-gave_ref}
pub use Rattle.core.proofs.mem.Facts.{says_two, says_three}
pub use Rattle.core.proofs.mem.Param.{El, R, args, el_x, elτ, Good, lawful}
pub use Rattle.core.proofs.ptr.Rows.{times_below, one_below}
pub use Rattle.core.proofs.slice.Lists.{hd, any-default}
pub use Rattle.core.proofs.slots.Bodies.{after, says_four}
pub use Rattle.core.proofs.slots.Lent.{pointer_in, pointer_out, none_at_null, value_lent}
pub use Rattle.core.proofs.slots.Places.{sz, besides, value_out, room_in, room_out, value_in, of_row, to_row}
pub use Rattle.core.specs.Mem.Slots.Ownership.{slots, owned, slots_lent, bytes_of, slot, slot_lent, lent}
pub use Rattle.std.proofs.raw_atomic.Walks.{proved, proved_at}
pub use Rattle.std.specs.Prelude.{◌≢◌}
