use Rattle.dary_heap.proofs.Common.{◌≡◌, ◌+◌, ◌≤◌, ◌++◌, length, vec_capacity, CalledAt, into_iter_items, into_iter_len, items_in, IsHeapOrdered, Runs, IsSubBag}
use Rattle.dary_heap.specs.Reading as read
use Rattle.dary_heap.proofs.run.run.Given as goal

abbrev pub invariant-loop-command : goal.invariant-loop-command
invariant-loop-command g l = record {
  split : l.fn.commands.items ≡ l.yielded ++ into_iter_items l.command-iterator;
  space : length l.replies.items + into_iter_len l.command-iterator ≤ vec_capacity l.replies;
  runs : Runs g.T.Ord.cmp (CalledAt g.P.FnMut) g.row.D l.fn.heap (read.commands l.yielded) (read.replies l.replies.items) l.heap;
  among : IsSubBag l.heap.items (l.fn.heap.items ++ items_in (read.commands l.yielded));
  ordered : IsHeapOrdered g.T.Ord.cmp g.row.D l.heap.items;
}
