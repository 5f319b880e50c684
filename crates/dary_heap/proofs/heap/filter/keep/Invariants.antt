use Rattle.dary_heap.proofs.Common.{◌≡◌, ℕ, ◌-◌, ◌<◌, ◌≤◌, Bool, List, length, take, drop, slice_get, vec_capacity, vec_len, CalledAt, items_where_true, ReturnsInTurn, TakesInTurn, first_no}
use Rattle.dary_heap.proofs.heap.filter.keep.Given as goal

-- what the answers so far tell
pub record Told {X P : Type 0} (calls : P → X → Bool → P → Type 0) (old now : List X) (f q : P) (place kept start : ℕ) : Type 0 where
  pub answers : List Bool
  pub so_far : length answers ≡ place
  pub asked : ReturnsInTurn calls f answers old q
  pub front : take kept now ≡ items_where_true answers old
  pub first : start ≡ first_no answers

-- each answer so far was yes
abbrev pub invariant-loop-start : goal.invariant-loop-start
invariant-loop-start g l = record {
  within : l.start ≤ vec_len l.fn.items;
  callable : TakesInTurn g.F.FnMut l.f (drop l.start l.fn.items.items);
  told : Told (CalledAt g.F.FnMut) l.fn.items.items l.fn.items.items l.fn.f l.f l.start l.start l.start;
}

abbrev pub decreases-loop-start : goal.decreases-loop-start
decreases-loop-start g l = vec_len l.fn.items - l.start

abbrev pub invariant-loop-place : goal.invariant-loop-place
invariant-loop-place g l = record {
  len : length l.items.items ≡ length l.initial.items.items;
  few : l.kept ≤ l.place;
  later : l.start < l.place;
  callable : TakesInTurn g.F.FnMut l.f (drop l.place l.fn.items.items);
  rest : (i : ℕ) → l.place ≤ i → slice_get l.items.items i ≡ slice_get l.fn.items.items i;
  told : Told (CalledAt g.F.FnMut) l.fn.items.items l.items.items l.fn.f l.f l.place l.kept l.start;
  capacity : vec_capacity l.items ≡ vec_capacity l.initial.items;
}
