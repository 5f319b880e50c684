use Rattle.dary_heap.proofs.{length_permutation, arith, rules, SiftsToBottom}
use Rattle.dary_heap.proofs.Path.{GoesUp-le}
use Rattle.dary_heap.proofs.sift.{GoesDownBy-within, whole_of}
use Rattle.dary_heap.proofs.sift.Ends.{comes_back}
use Rattle.dary_heap.proofs.sift.one_item.sift_to_bottom_with.Goals.{After-with_slots}
use Rattle.dary_heap.proofs.sift.one_item.sift_to_bottom_with.Given.{Over}
use Rattle.dary_heap.proofs.sift.one_item.sift_to_bottom_with.Goals as goal

sifts : (g : Over) (c : After-with_slots g) → SiftsToBottom g.J.Judge.order g.row.D c.with_slots.result c.args.items.now c.with_slots.new.items (g.J.Judge.count c.args.judge.now)
    (g.J.Judge.count c.with_slots.new.state)
sifts g c = search rules

pub returns-clause-path : goal.returns-clause-path
returns-clause-path g c =
    comes_back g.J.Judge.order g.row.D c.with_slots.result c.args.items.now c.with_slots.new.items c.requires (sifts g (goal.at.returns-clause-path g c).After-with_slots)

pub returns-clause-bag : goal.returns-clause-bag
returns-clause-bag g c = (sifts g (goal.at.returns-clause-bag g c).After-with_slots).permutation

pub returns-clause-counted : goal.returns-clause-counted
returns-clause-counted g c = (sifts g (goal.at.returns-clause-counted g c).After-with_slots).counted

pub returns-clause-ordered : goal.returns-clause-ordered
returns-clause-ordered g c = λ h.
    let sifted = sifts g (goal.at.returns-clause-ordered g c).After-with_slots in
    whole_of g.row.D c.args.items.now c.with_slots.new.items sifted.permutation (sifted.ordered h)

pub returns-clause-within : goal.returns-clause-within
returns-clause-within g c =
    let sifted = sifts g (goal.at.returns-clause-within g c).After-with_slots in
    let low = GoesDownBy-within g.J.Judge.order g.row.D sifted.down.0 0 sifted.bottom c.args.items.now sifted.items_then c.requires sifted.down.1 in
    omega (arith, low, GoesUp-le g.row.D sifted.bottom c.with_slots.result sifted.up.1.path, length_permutation c.args.items.now c.with_slots.new.items sifted.permutation)
