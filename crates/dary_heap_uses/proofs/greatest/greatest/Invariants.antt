use Rattle.dary_heap_uses.proofs.{KeepsGreatest, length, pop_bound, push_bound, values, ◌*◌, ◌+◌, ◌≤◌}
use Rattle.dary_heap_uses.proofs.greatest.greatest.Given as goal

abbrev pub invariant-loop-item : goal.invariant-loop-item
invariant-loop-item g l = record {
  greatest : KeepsGreatest g.T.Ord.cmp l.k l.yielded (values l.kept.items);
  few : length l.kept.items ≤ l.k;
  counted : l.kept.comparisons ≤ length l.yielded * (push_bound g.row.D l.k + pop_bound g.row.D l.k + 1);
}
