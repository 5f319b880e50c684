-- What the proofs of this crate import from elsewhere: names of std, of the logic and of `specs`.
pub use borrow.Author.Tests.{tests}
pub use Rattle.std.proofs.Common.{All, Bool, Err, FitsSigned, IfSome, List, None, Ok, OnOk, Option, Result, Some, [], ap, append-nil, append_assoc, arith, codes, cond, drop, false, flat_map, get_or}
pub use Rattle.std.proofs.Common.{inl, inr, int_le, is_some, length, lit<, map, neg_ℤ, not, of_calls, option_to_list, pos, refl, rules, set, subst, subst₂, suc, sym, take, true, zero, ℕ, ℤ, ◌%◌}
pub use Rattle.std.proofs.Common.{◌++◌, ◌+◌, ◌-ℤ◌, ◌-◌, ◌/◌, ◌<◌, ◌==◌, ◌^◌, ◌||◌, ◌∙◌, ◌∷◌, ◌≡◌, ◌≤◌}
pub use Rattle.std.proofs.Math.Bool.{true≢false}
pub use Rattle.std.proofs.lemmas.Bool.{eqb-true, ne_eqb}
pub use Rattle.std.proofs.lemmas.Bool.Decides.{Decides-eqb}
pub use Rattle.std.proofs.lemmas.Int.{to_z-of_z}
pub use Rattle.std.proofs.lemmas.Iterator.{IsFirst-from_position, YieldsList-from_slice}
pub use Rattle.std.proofs.lemmas.List.{flat_map_more, length-append, map-append, take-append-drop, take_all, take_more, take_rest}
pub use Rattle.std.proofs.lemmas.List.Elements.{All-append, All-cons, All-from_all_within, All-head, All-nil, All-tail}
pub use Rattle.std.proofs.lemmas.List.Splits.{length-slice_split, slice_split-cons_no, slice_split-cons_yes, slice_split_at, slice_split_none}
pub use Rattle.std.proofs.lemmas.Str.Parse.{digit_at}
pub use Rattle.std.specs.Fmt.{decimal, signed_decimal}
pub use Rattle.std.specs.Int.{IsInRange, w64}
pub use Rattle.std.specs.Io.KnownBytes.{Appends, append_known}
pub use Rattle.std.specs.List.{AllWithin, HoldsAt, filter, onto_first, slice_split}
pub use Rattle.std.specs.Str.Parse.{AllDigits, IsNumeral, digits_value, signed_digits_value, starts_with_minus, without_leading_plus, without_leading_sign}
pub use Rattle.dary_heap.specs.Machine.{Ask, Asked, Command, Done, DrainSorted, MayAnswer, PopIf, Popped, Retain, Step, Steps}
pub use Rattle.dheap.specs.Answers.{answer, answered, line, listing, text}
pub use Rattle.dheap.specs.Program.{AsksAtLeast, MayPrint}
pub use Rattle.dheap.specs.Script.{CarryOut, CarryOutLine, IsFirstBad, IsFirstLine, Say, is_blank, lines_left, lines_of, words_of}
pub use Rattle.dheap.specs.declared.serve.fault.Fault.{Fault}
pub use Rattle.dheap.specs.declared.serve.script.line.Line.{Line}
