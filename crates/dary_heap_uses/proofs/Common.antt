-- What the proofs of this crate import from elsewhere: names of std, of the logic and of `specs`.
pub use Rattle.dary_heap.proofs.Callers.{All-mapped, Contains-cases, Contains-map, IsGreatest-overtaken, IsGreatest-stays, IsPermutation-uncons, IsSameBag-written, came_later, cmp_from_lt}
pub use Rattle.dary_heap.proofs.Callers.{cmp_from_not_lt, descending_at, extend_fits, front_cases, nat_le_from_cmp, none_first, none_left, not_greater-less, not_greater-trans, on_ok_of}
pub use Rattle.dary_heap.proofs.Callers.{ordered_from_std_heap, overwritten, pop_if_no, reversed_came, reversed_least, reversed_went, std_heap_from_ordered, sum_falls, take_pops, upper_bound}
pub use Rattle.dary_heap.proofs.Callers.{upper_bound_left}
pub use Rattle.dary_heap.proofs.Common.{All, All-contains, All-contains_itself, All-weaker, Bool, Contains, Contains-permutation, Contents, Err, Greater, IsDescending, IsDistinct-IsPermutation}
pub use Rattle.dary_heap.proofs.Common.{IsDistinct-cons, IsDistinct-tail, IsGreatest, IsPermutation-append_comm, IsPermutation-append_left, IsPermutation-cons, IsPermutation-middle}
pub use Rattle.dary_heap.proofs.Common.{IsPermutation-refl, IsPermutation-sym, IsPermutation-trans, IsPop, IsSameBag, IsTotalOrder, List, None, Ok, Option, Ordering, Result, RisesWithin, Some, Vec}
pub use Rattle.dary_heap.proofs.Common.{[], ap, append-nil, append_assoc, arith, false, get_or, get_or_default, inl, inr, into_iter_items, is_lt, length, length-append, length-map, length_permutation}
pub use Rattle.dary_heap.proofs.Common.{loaned, map, map-id, mul-le-mul_left, nat_cmp, nat_eq, nat_eq_equiv, ne_eqb, ordering_then, pop_bound, pops_bound, push_bound, recursion_from_All, refl, rules}
pub use Rattle.dary_heap.proofs.Common.{sink_bound, slice_get, subst, suc, sum_by, sym, take, take_all, take_more, true, unsigned_Decides, vec_capacity, vec_len, zero, ℕ, ◌*◌, ◌++◌, ◌+◌, ◌-◌, ◌<◌}
pub use Rattle.dary_heap.proofs.Common.{◌∙◌, ◌∷◌, ◌≡◌, ◌≢◌, ◌≤◌, ◌⊎◌}
pub use Rattle.dary_heap.proofs.Depth.{depth-later, depth-parent, times_depth-later}
pub use Rattle.dary_heap.specs.PeekMut.{is_written, lender}
pub use Rattle.indexed_heap.proofs.Callers.{AreDistinct-map, Gets-all, Gets-given, Gets-map, InsertsWithin-map, IsAbsent-map, IsEntry-map, Loses-all, item_of-absent, item_of-map, item_of-there}
pub use Rattle.indexed_heap.specs.Entries.{AreDistinct, Gets, IsAbsent, by_item, entries_of, item_of}
pub use Rattle.dary_heap_uses.specs.FromStd.{Falls}
pub use Rattle.dary_heap_uses.specs.Keeping.{KeepsGreatest, values}
pub use Rattle.dary_heap_uses.specs.Merging.{heads_of, listed}
pub use Rattle.dary_heap_uses.specs.Scheduling.{ComesBefore, HasMoved, IsNumbered, submitted, turn_of}
pub use Rattle.dary_heap_uses.specs.Simulation.{IsMade, IsNotBefore, IsRun, IsStep, Step}
pub use Rattle.dary_heap_uses.specs.Timers.{IsBefore, IsFirst, named}
pub use Rattle.dary_heap_uses.specs.declared.merge.Head.{Head}
pub use Rattle.dary_heap_uses.specs.declared.scheduler.Waiting.{Waiting}
pub use Rattle.dary_heap_uses.specs.declared.simulation.Change.{Change}
pub use Rattle.dary_heap_uses.specs.declared.simulation.Change.TheVariants.{Revoke, Schedule}
pub use Rattle.std.proofs.Common.{IfOk, OnErr, drop, drop-cons, leb, ltb, not, option_map}
pub use Rattle.std.proofs.lemmas.Bool.Decides.{not_from_Decides}
pub use Rattle.std.proofs.lemmas.Fn.{FoldsTo-push, filter_same}
pub use Rattle.std.proofs.lemmas.Iterator.Adapters.{YieldsList-from_vec, at_most_from_yields_List, fact_from_extend}
pub use Rattle.std.proofs.lemmas.List.{get_or_append_left, length_push, take-append-drop}
pub use Rattle.std.proofs.lemmas.List.Concat.{flat_map-append}
pub use Rattle.std.proofs.lemmas.List.Elements.{All-append, All-cons, All-head, All-nil, All-pop, All-push, All-tail, filter-append}
pub use Rattle.std.proofs.lemmas.List.Filters.{length-filter_both}
pub use Rattle.std.proofs.lemmas.List.Kept.{IsSortedBy-push}
pub use Rattle.std.proofs.lemmas.List.MinMax.{ranks_by}
pub use Rattle.std.proofs.lemmas.List.Quantifiers.{all_pairs_push}
pub use Rattle.std.proofs.lemmas.List.Sorted.{All-permutation, IsNonDecreasingBy-from_sort, IsPermutation-append_right, IsPermutation-map, IsPermutation-pop_more, IsPermutation-push_more}
pub use Rattle.std.proofs.lemmas.List.Sorted.{IsPermutation-remove, le_from_greatest, sorted_far}
pub use Rattle.std.proofs.lemmas.List.Sums.{length-filter}
pub use Rattle.std.proofs.lemmas.Result.{on_err_weaker}
pub use Rattle.std.specs.Cmp.{IsStrictWeakOrder, nat_cmp_total}
pub use Rattle.std.specs.List.{AllPairs, FoldsTo, filter, flat_map, remove}
pub use Rattle.std.specs.List.Sorted.{IsPermutation, IsSorted, IsSortedBy, IsStableBy, ties}
pub use Rattle.std.specs.Ordering.{flip_args}
unfoldable pub use Rattle.std.specs.List.{IsDistinct}
pub use native.Mathlib.Numerals.{unary_clauses}
