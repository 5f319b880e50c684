use Rattle.dary_heap.proofs.Common.{◌≡◌, ◌+◌, ◌≤◌, ◌++◌, length, map, vec_len, vec_capacity, EndsFrom, items_left, Ran}
use Rattle.dary_heap.proofs.heap.join.push_all.Given as goal

abbrev pub invariant-loop-rest : goal.invariant-loop-rest
invariant-loop-rest g l = Ran g.I.Iterator.can_next (EndsFrom g.I.Iterator.remaining) (items_left g.I.Iterator.remaining) g.I.Iterator.next_gives
    (λ xs. (l.items.items ≡ l.initial.items.items ++ map g.X.Element.value xs) × (vec_len l.items ≡ vec_len l.initial.items + length xs) ×
    (vec_capacity l.initial.items ≤ vec_capacity l.items) × (vec_len l.initial.items + length xs ≤ vec_capacity l.initial.items → vec_capacity l.items ≡ vec_capacity l.initial.items)) l.initial.rest l.rest

abbrev pub decreases-loop-rest : goal.decreases-loop-rest
decreases-loop-rest g l = items_left g.I.Iterator.remaining l.rest
