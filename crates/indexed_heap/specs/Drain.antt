-- What a clause sees of a `Drain`, and what it makes of the heap.
use Rattle.std.specs.Prelude.{[], ◌∷◌}
use denote.Builtin.{usize}
use denote.Struct.Tuple.{Tuple}
use Rattle.std.specs.Borrow.{Fml, GName, RattleType, MutBor, Array, follows}
use Rattle.dary_heap.specs.declared.sift.judge.Judge as judge
pub use Rattle.dary_heap.specs.Drain.{drain_rest, drain_lender}
use Rattle.indexed_heap.specs.Entries.{Indexed}
use Rattle.indexed_heap.specs.contracts.heap.IndexedHeap.{the_row}

-- a heap whose entries were taken out of it with their vector
abbrev pub emptied : {T : Type 0} → Indexed T → Indexed T
emptied heap = record { entries = []; capacity = 0; keys = heap.keys; comparisons = heap.comparisons }

-- once the loan under this name ends, early or not, the heap is emptied
abbrev pub leaves_emptied : (T D J : RattleType) (j : judge.Ghosts J.Denot T.Denot) → MutBor (Indexed T.Denot) → GName → Fml
leaves_emptied T D J j heap loan = follows (the_row T D J j) (Array (Tuple (usize ∷ T ∷ [])) 0) heap.ghost_name loan (λ _. emptied heap.now)
