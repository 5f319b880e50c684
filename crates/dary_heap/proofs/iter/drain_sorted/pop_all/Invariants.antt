use Rattle.dary_heap.proofs.Common.{◌≡◌, ◌+◌, ◌≤◌, length, pops_bound, vec_capacity, IsHeapOrdered}
use Rattle.dary_heap.proofs.iter.drain_sorted.pop_all.Given as goal

-- what was popped took no more comparisons than those pops may
abbrev pub invariant-loop : goal.invariant-loop
invariant-loop g l = record {
  ordered : IsHeapOrdered g.J.Judge.order g.row.D l.items.items;
  spent : (vec_capacity l.items ≡ vec_capacity l.initial.items)
      × (g.J.Judge.count l.initial.judge ≤ g.J.Judge.count l.judge)
      × (g.J.Judge.count l.judge + pops_bound g.row.D (length l.items.items) ≤ g.J.Judge.count l.initial.judge + pops_bound g.row.D (length l.initial.items.items));
}

abbrev pub decreases-loop : goal.decreases-loop
decreases-loop g l = length l.items.items
