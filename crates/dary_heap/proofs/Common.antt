-- What the proofs of this crate import from elsewhere: names of std, of the logic and of `specs`.
pub use borrow.Author.Tests.{eqb-false, eqb-true, ltb-true}
pub use denote.Ref.{Bor}
pub use mathlib.Core.Bool.{◌&&◌}
pub use mir.Val.{bool_byte}
pub use Rattle.std.proofs.Common.{All, Bool, Contains, Err, IfNone, IfSome, IsPermutation, IsSome, IsTrue, List, None, Ok, Option, Result, Some, Vec, [], add-one, ap, append-nil, append_assoc}
pub use Rattle.std.proofs.Common.{arith, drop, false, get_or, get_or-set_other, get_or-set_same, if◌then◌else◌, inl, inr, is_some, le_refl, length, length-append, length-set, length-take, lit<, map}
pub use Rattle.std.proofs.Common.{min, nat_eq, nat_lt, refl, replicate, rules, set, slice_get, slice_set, subst, suc, sum, sym, take, true, vec_capacity, vec_len, zero, zero-le, ℕ, ◌*◌, ◌++◌, ◌+◌}
pub use Rattle.std.proofs.Common.{◌-◌, ◌/◌, ◌<◌, ◌^◌, ◌↔◌, ◌∙◌, ◌∷◌, ◌≡◌, ◌≢◌, ◌≤◌, ◌⊎◌}
pub use Rattle.std.proofs.Math.Nat.{div-le_self, div-mul-le_self, lt-div-mul-add, mul-le-mul, mul-le-mul_left, mul-le-mul_right, pow-succ'}
pub use Rattle.std.proofs.iter.Next.{Gave-then, Ran, Yields-more, again, begun, drained, if_no, if_yes, less, said}
pub use Rattle.std.proofs.lemmas.Bool.{cases_eq, cases_lt, ne_eqb, true≢false}
pub use Rattle.std.proofs.lemmas.Bool.Decides.{nat_tests}
pub use Rattle.std.proofs.lemmas.Grind.{common_steps}
pub use Rattle.std.proofs.lemmas.List.{get_or-replicate, get_or_default, get_or_past, length-map, length-replicate, length-take-le, map-append, map-id, nil_from_length, take-append-drop}
pub use Rattle.std.proofs.lemmas.List.{take-set-le, take_all, take_more}
pub use Rattle.std.proofs.lemmas.List.Edits.{length-swap, swap_is}
pub use Rattle.std.proofs.lemmas.List.Elements.{All-contains, All-contains_itself, All-from_recursion, All-weaker, Contains-append_cases, Contains-append_left, Contains-append_right}
pub use Rattle.std.proofs.lemmas.List.Elements.{Contains-get_or, Contains-push, Contains-push_cases, recursion_from_All}
pub use Rattle.std.proofs.lemmas.List.Sorted.{Contains-permutation, IsPermutation-append_comm, IsPermutation-append_left, IsPermutation-cons, IsPermutation-middle, IsPermutation-refl}
pub use Rattle.std.proofs.lemmas.List.Sorted.{IsPermutation-sym, IsPermutation-to_front, IsPermutation-trans, length_permutation, sum_by-IsPermutation}
pub use Rattle.std.proofs.lemmas.List.Sums.{sum-map, sum_by-cons, sum_by-set}
pub use Rattle.std.proofs.lemmas.Map.Keys.{IsDistinct-IsPermutation, IsDistinct-cons, IsDistinct-head, IsDistinct-tail}
pub use Rattle.std.proofs.lemmas.Nat.{le-div}
pub use Rattle.std.proofs.lemmas.Option.{get_or_from_slice_get, slice_get-get_or, slice_get_cases, slice_get_past, slice_get_read, slice_get_within}
pub use Rattle.std.proofs.lemmas.Result.{MatchResult-weaker, err_from_is_err_and}
pub use Rattle.std.specs.Bool.{OnFalse}
pub use Rattle.std.specs.Cmp.{IsTotalOrder, nat_cmp_is, nat_eq_equiv, unsigned_Decides}
pub use Rattle.std.specs.Fn.{Called, CalledAt, Mut, TakesAt}
pub use Rattle.std.specs.Iterator.{EndsFrom, Yields, YieldsFirst, YieldsFirstRef, YieldsLast, YieldsLastRef, items_left}
pub use Rattle.std.specs.List.{AllByRecursion, items_where_true, sum_by, swap}
unfoldable pub use Rattle.std.specs.List.{IsDistinct}
pub use Rattle.std.specs.List.Retain.{ReturnsInTurn}
pub use Rattle.std.specs.Ordering.{is_gt, is_le, is_lt, nat_cmp, ordering_reverse, ordering_then}
pub use Rattle.std.specs.Vec.Iter.{into_iter_items, into_iter_len}
pub use Rattle.std.specs.declared.alloc.Global.{Global}
pub use Rattle.std.specs.declared.cmp.Ordering.{Ordering}
pub use Rattle.std.specs.declared.cmp.Ordering.TheVariants.{Equal, Greater, Less}
pub use Rattle.dary_heap.specs.Asking.{IsCallableOn, IsCallableOnce, MayCall, MayServe, TakesInTurn, items_in, written}
pub use Rattle.dary_heap.specs.Bag.{IsGreatest, IsGreatest-same_bag, IsSameBag, IsSubBag}
pub use Rattle.dary_heap.specs.Bounds.{RisesWithin, build_bound, charge, fix_bound, mend_bound, pop_bound, pops_bound, push_bound, refreshes, search_bound, sink_bound}
pub use Rattle.dary_heap.specs.sift.Choosing.{Chooses, FindsGreatestChild, HasChildrenFrom, IsAt, IsBelow, IsFirstChild, IsGreatestAt}
pub use Rattle.dary_heap.specs.Contents.{Contents}
pub use Rattle.dary_heap.specs.Drain.{drain_rest}
pub use Rattle.dary_heap.specs.DrainSorted.{DrainsSorted, KeepsHeapAlong, drained_heap}
pub use Rattle.dary_heap.specs.shortest_path.Examining.{AreExamined, AreExaminedOnce, Pushes, all_edges_of, edges_of}
pub use Rattle.dary_heap.specs.Extending.{IsExtended}
pub use Rattle.dary_heap.specs.Filtering.{first_no}
pub use Rattle.dary_heap.specs.HeapOrder.{HasGreaterChild, IsAtMost, IsHeapOrdered, IsHeapOrderedBelowRoot, IsHeapOrderedButAt, IsLastGreatestChild, arity, parent}
unfoldable pub use Rattle.dary_heap.specs.HeapOrder.{depth}
pub use Rattle.dary_heap.specs.hole.Hole.{filled}
pub use Rattle.dary_heap.specs.Loan.{IsExceeded, IsOnLoan-written}
pub use Rattle.dary_heap.specs.Machine.{Act, Acts, Append, Ask, Asked, Changed, Clear, Command, Done, Drain, DrainSorted, End, Ends, Extend, ExtendRefused, Len, Loan, Loaned, Old, Pop, PopIf}
pub use Rattle.dary_heap.specs.Machine.{Popped, Pops, PopsInTurn, Push, Pushed, PutBack, Refresh, Reply, Reserve, Retain, Seen, Shrink, Size, Step, Steps, TakeOut, Taken, Write, last_state}
pub use Rattle.dary_heap.specs.sift.Moving.{ComesTo, Exceeds, GoesDown, GoesDownBy, SiftsDown, SiftsToBottom, SiftsUp}
pub use Rattle.dary_heap.specs.Path.{GoesUp, GoesUpBy}
pub use Rattle.dary_heap.specs.PeekMut.{loaned}
pub use Rattle.dary_heap.specs.Popping.{GivesDescending, IsDescending, IsGivenDescending, IsPop}
pub use Rattle.dary_heap.specs.Run.{CapacitySteps, GrowsFor, IsFull, IsServed, KeepsCapacity, Runs, Serves, room, sure_after}
pub use Rattle.dary_heap.specs.shortest_path.Searching.{AreApart, HasTooLarge, IsAlong, Relaxes, state, state_cmp}
pub use Rattle.dary_heap.specs.sift.Sifting.{IsLastGreatest, IsOrderedButAbove, IsOrderedButBelow, IsOrderedWithin, StaysFirst}
unfoldable pub use Rattle.dary_heap.specs.sift.Sifting.{sift_down_cost}
pub use Rattle.dary_heap.specs.BagState.{IsJoined, IsSameState, IsState, front, front_with}
pub use Rattle.dary_heap.specs.TailRepair.{IsWeight}
pub use Rattle.dary_heap.specs.Walk.{Graph, HasCritical, HasEdge, IsLeastCost, IsUnreached, IsWalk, IsWithin, NoneCriticalBelow, cost_of}
pub use Rattle.dary_heap.specs.declared.hole.pointers.Hole.{Hole}
pub use Rattle.dary_heap.specs.declared.shortest_path.Edge.{Edge}
pub use Rattle.dary_heap.specs.declared.shortest_path.State.{State}
pub use Rattle.dary_heap.specs.declared.shortest_path.work.Work.{Work}
pub use Rattle.dary_heap.specs.declared.sift.judge.Count.{Count}
