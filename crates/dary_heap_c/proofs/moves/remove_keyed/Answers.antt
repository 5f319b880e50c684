use Rattle.dary_heap.proofs.Common.{inl, refl, sym, ◌∙◌, arith, IsPermutation-refl}
use Rattle.dary_heap.proofs.sift.Parts.{still_but_at}
use Rattle.dary_heap.proofs.sift.Sorting.{but_last_is}
use Rattle.dary_heap_c.proofs.Placing.{bag_behind, behind_ordered, comes_last, gives_place, none_there, one_less, others_stay, removed}
use Rattle.dary_heap_c.proofs.moves.remove_keyed.Goals as goal

pub returns-then-place-end-clause-bag : goal.returns-then-place-end-clause-bag
returns-then-place-end-clause-bag g c =
    let is = sym c.swap.ensures.after ∙ c.in-Some.ensures.cases.0 in
    bag_behind c.args.entries.now c.in-Some.rest.now c.in-Some.removed.now c.args.place c.requires is c.fix_keyed.new.entries c.fix_keyed.ensures.bag

pub returns-then-place-end-clause-last : goal.returns-then-place-end-clause-last
returns-then-place-end-clause-last g c =
    let is = sym c.swap.ensures.after ∙ c.in-Some.ensures.cases.0 in
    comes_last c.args.entries.now c.in-Some.rest.now c.in-Some.removed.now c.args.place c.requires is c.fix_keyed.new.entries c.fix_keyed.ensures.bag

pub returns-then-place-end-clause-ordered : goal.returns-then-place-end-clause-ordered
returns-then-place-end-clause-ordered g c = λ h.
    let xs = c.args.entries.now in let rest = c.in-Some.rest.now in let last = c.in-Some.removed.now in let place = c.args.place in
    let stay = others_stay xs rest last place c.requires (sym c.swap.ensures.after ∙ c.in-Some.ensures.cases.0) in
    rw (but_last_is c.fix_keyed.new.entries last) (c.fix_keyed.ensures.ordered (still_but_at {cmp = g.J.Judge.order} g.row.D place xs rest stay h))

pub returns-then-place-end-clause-counted : goal.returns-then-place-end-clause-counted
returns-then-place-end-clause-counted g c =
    let less = one_less c.args.entries.now c.in-Some.rest.now c.in-Some.removed.now c.args.place c.requires (sym c.swap.ensures.after ∙ c.in-Some.ensures.cases.0) in
    rw less at c.fix_keyed.ensures.counted

pub returns-then-place-end-clause-rights : goal.returns-then-place-end-clause-rights
returns-then-place-end-clause-rights g c =
    let is = sym c.swap.ensures.after ∙ c.in-Some.ensures.cases.0 in
    let fixed = c.fix_keyed.ensures in
    removed c.args.entries.now c.in-Some.rest.now c.in-Some.removed.now c.args.place c.requires is c.fix_keyed.new.entries fixed.bag c.args.places.now c.fix_keyed.new.places
    (rw c.note.ensures at fixed.rights)

pub returns-else-place-end-clause-ordered : goal.returns-else-place-end-clause-ordered
returns-else-place-end-clause-ordered g c = λ h.
    let xs = c.args.entries.now in let rest = c.in-Some.rest.now in let last = c.in-Some.removed.now in let place = c.args.place in
    let is = sym c.swap.ensures.after ∙ c.in-Some.ensures.cases.0 in
    let put = still_but_at {cmp = g.J.Judge.order} g.row.D place xs rest (others_stay xs rest last place c.requires is) h in
    rw (but_last_is rest last) (behind_ordered g.row.D rest place (omega (arith, c.if-place-end.false, one_less xs rest last place c.requires is)) put)

pub returns-else-place-end-clause-rights : goal.returns-else-place-end-clause-rights
returns-else-place-end-clause-rights g c =
    let xs = c.args.entries.now in let rest = c.in-Some.rest.now in let last = c.in-Some.removed.now in let place = c.args.place in
    let is = sym c.swap.ensures.after ∙ c.in-Some.ensures.cases.0 in
    let less = one_less xs rest last place c.requires is in
    rw c.note.ensures (removed xs rest last place c.requires is rest (IsPermutation-refl rest) c.args.places.now _ (none_there place rest _ (omega (arith, less, c.if-place-end.false))))

pub returns-then-place-end-clause-path : goal.returns-then-place-end-clause-path
returns-then-place-end-clause-path g c =
    let is = sym c.swap.ensures.after ∙ c.in-Some.ensures.cases.0 in
    let fixed = c.fix_keyed.ensures in
    let way = fixed.path in
    (way.0, gives_place c.args.entries.now c.in-Some.rest.now c.in-Some.removed.now c.args.place c.requires is c.fix_keyed.new.entries fixed.bag g.row.D way.0 way.1)

pub returns-else-place-end-clause-path : goal.returns-else-place-end-clause-path
returns-else-place-end-clause-path g c =
    let rest = c.in-Some.rest.now in let place = c.args.place in
    let is = sym c.swap.ensures.after ∙ c.in-Some.ensures.cases.0 in
    (place, gives_place c.args.entries.now rest c.in-Some.removed.now place c.requires is rest (IsPermutation-refl rest) g.row.D place (inl record { levels = 0; way = (refl, refl) }))
