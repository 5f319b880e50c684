use Rattle.dary_heap.proofs.Common.{◌≡◌, ◌≤◌, vec_len, vec_capacity, Yields, DrainsSorted}
use Rattle.dary_heap.proofs.run.drain_sorted.Given as goal

abbrev pub invariant-loop : goal.invariant-loop
invariant-loop g l = record {
  given : Yields (DrainsSorted g.T.Ord.cmp) l.initial.items l.taken.items l.items;
  long : vec_len l.taken ≡ l.counter;
  space : l.count ≤ vec_capacity l.taken;
}
