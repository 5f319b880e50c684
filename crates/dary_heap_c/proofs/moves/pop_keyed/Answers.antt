use Rattle.dary_heap.proofs.Common.{inl, inr, refl, sym, ◌∙◌, arith, IsPermutation-refl}
use Rattle.dary_heap.proofs.Order.{below_root}
use Rattle.dary_heap.proofs.Placing.{went_down}
use Rattle.dary_heap.proofs.sift.Parts.{replaced}
use Rattle.dary_heap.proofs.sift.Sorting.{but_last_is}
use Rattle.dary_heap_c.proofs.Placing.{bag_behind, comes_last, gives_place, none_there, one_less, others_stay, removed, rights}
use Rattle.dary_heap_c.specs.Places.{value_of}
use Rattle.dary_heap_c.proofs.moves.pop_keyed.Goals as goal

pub returns-then-end-ne0-clause-bag : goal.returns-then-end-ne0-clause-bag
returns-then-end-ne0-clause-bag g c =
    let sifted = c.sift_to_bottom_with-stop in
    bag_behind c.args.entries.now c.in-Some.rest.now c.in-Some.popped.now 0 (omega arith) (sym c.swap.ensures.after ∙ c.in-Some.ensures.cases.0) sifted.new.items sifted.ensures.bag

pub returns-then-end-ne0-clause-last : goal.returns-then-end-ne0-clause-last
returns-then-end-ne0-clause-last g c =
    let sifted = c.sift_to_bottom_with-stop in
    comes_last c.args.entries.now c.in-Some.rest.now c.in-Some.popped.now 0 (omega arith) (sym c.swap.ensures.after ∙ c.in-Some.ensures.cases.0) sifted.new.items sifted.ensures.bag

pub returns-then-end-ne0-clause-ordered : goal.returns-then-end-ne0-clause-ordered
returns-then-end-ne0-clause-ordered g c = λ h.
    let xs = c.args.entries.now in let rest = c.in-Some.rest.now in let last = c.in-Some.popped.now in
    let stay = others_stay xs rest last 0 (omega arith) (sym c.swap.ensures.after ∙ c.in-Some.ensures.cases.0) in
    let sifted = c.sift_to_bottom_with-stop in
    rw (but_last_is sifted.new.items last) (sifted.ensures.ordered (replaced g.row.D xs rest (λ k pos within. stay k (omega (arith, pos)) within) (below_root g.row.D xs h)))

pub returns-then-end-ne0-clause-rights : goal.returns-then-end-ne0-clause-rights
returns-then-end-ne0-clause-rights g c =
    let xs = c.args.entries.now in let rest = c.in-Some.rest.now in
    let sifted = c.sift_to_bottom_with-stop in
    let went = went_down value_of g.row.D sifted.result 0 rest sifted.new.items sifted.ensures.within sifted.ensures.path in
    let along = rights g.row.D sifted.result 0 0 rest sifted.new.items c.note.new.places c.write_path.new.places sifted.ensures.bag went c.write_path.ensures.right c.write_path.ensures.others in
    removed xs rest c.in-Some.popped.now 0 (omega arith) (sym c.swap.ensures.after ∙ c.in-Some.ensures.cases.0) sifted.new.items sifted.ensures.bag c.args.places.now c.write_path.new.places
    (rw c.note.ensures at along)

pub returns-else-end-ne0-clause-rights : goal.returns-else-end-ne0-clause-rights
returns-else-end-ne0-clause-rights g c =
    let xs = c.args.entries.now in let rest = c.in-Some.rest.now in let last = c.in-Some.popped.now in
    let is = sym c.swap.ensures.after ∙ c.in-Some.ensures.cases.0 in
    let less = one_less xs rest last 0 c.requires is in
    rw c.note.ensures (removed xs rest last 0 c.requires is rest (IsPermutation-refl rest) c.args.places.now _ (none_there 0 rest _ (omega (arith, less, c.if-end-ne0.false))))

pub returns-then-end-ne0-clause-path : goal.returns-then-end-ne0-clause-path
returns-then-end-ne0-clause-path g c =
    let sifted = c.sift_to_bottom_with-stop in
    let is = sym c.swap.ensures.after ∙ c.in-Some.ensures.cases.0 in
    (sifted.result, gives_place c.args.entries.now c.in-Some.rest.now c.in-Some.popped.now 0 (omega arith) is sifted.new.items sifted.ensures.bag g.row.D sifted.result (inr sifted.ensures.path))

pub returns-else-end-ne0-clause-path : goal.returns-else-end-ne0-clause-path
returns-else-end-ne0-clause-path g c =
    let rest = c.in-Some.rest.now in
    let is = sym c.swap.ensures.after ∙ c.in-Some.ensures.cases.0 in
    (0, gives_place c.args.entries.now rest c.in-Some.popped.now 0 c.requires is rest (IsPermutation-refl rest) g.row.D 0 (inl record { levels = 0; way = (refl, refl) }))
