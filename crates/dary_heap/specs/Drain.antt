-- What a clause sees of a `Drain`, and what it makes of the heap.
use Rattle.std.specs.Prelude.{List, []}
use Rattle.std.specs.Borrow.{Fml, GName, RattleType, MutBor, Array, follows}
use Rattle.dary_heap.specs.Contents.{Contents}
use Rattle.dary_heap.specs.contracts.heap.DaryHeap.{the_row}
use Rattle.dary_heap.specs.declared.sift.judge.Judge as judge
use Rattle.dary_heap.specs.declared.iter.drain.Drain.{Drain}

-- the items that are left
abbrev pub drain_rest : {T : Type 0} → Drain T → List T
drain_rest it = it.rest

-- the name of the reference by which it keeps the heap borrowed
abbrev pub drain_lender : {T : Type 0} → Drain T → GName
drain_lender it = it.left.ghost_name

-- a heap whose vector was taken out of it
abbrev pub emptied : {T : Type 0} → Contents T → Contents T
emptied heap = record { items = []; capacity = 0; comparisons = heap.comparisons }

-- once the loan under this name ends, early or not, the heap is emptied
abbrev pub leaves_emptied : (T D J : RattleType) (j : judge.Ghosts J.Denot T.Denot) → MutBor (Contents T.Denot) → GName → Fml
leaves_emptied T D J j heap loan = follows (the_row T D J j) (Array T 0) heap.ghost_name loan (λ _. emptied heap.now)
