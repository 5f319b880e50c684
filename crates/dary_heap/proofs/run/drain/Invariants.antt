use Rattle.dary_heap.proofs.Common.{◌≡◌, ◌++◌, ◌≤◌, vec_len, vec_capacity, drain_rest}
use Rattle.dary_heap.proofs.run.drain.Given as goal

abbrev pub invariant-loop : goal.invariant-loop
invariant-loop g l = record {
  parts : drain_rest l.initial.rest ≡ l.taken.items ++ drain_rest l.rest;
  long : vec_len l.taken ≡ l.counter;
  space : l.count ≤ vec_capacity l.taken;
}
