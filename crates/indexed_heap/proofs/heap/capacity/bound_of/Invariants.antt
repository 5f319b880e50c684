use Rattle.dary_heap.proofs.Common.{◌≡◌, take}
use Rattle.indexed_heap.specs.Keys.{key_bound}
use Rattle.indexed_heap.proofs.heap.capacity.bound_of.Given as goal

abbrev pub invariant-loop-key : goal.invariant-loop-key
invariant-loop-key g l = l.bound ≡ key_bound (take l.key-index l.entries)
