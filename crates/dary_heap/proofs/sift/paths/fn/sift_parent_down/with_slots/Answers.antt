use Rattle.dary_heap.proofs.{◌≡◌, length, sym, ap, ◌∙◌, arith, filled, length-set, length_permutation}
use Rattle.dary_heap.proofs.sift.{Falls-from_SiftsDown, found_within, goes_down, rests}
use Rattle.dary_heap.proofs.hole.Holes.{length-filled, filled_at, refilled}
use Rattle.dary_heap.proofs.sift.paths.fn.sift_parent_down.with_slots.Goals as goal

pub get-requires : goal.get-requires
get-requires g c =
    let here = c.take-hole.ensures.at in
    let found = found_within g.row.D c.take-hole.result.0 c.captures.place (sym here) c.greatest_child-child.ensures in
    (found.1, omega (arith, found.0, here))

pub move_to-requires : goal.move_to-requires
move_to-requires g c =
    let here = sym c.take-hole.ensures.at in
    let found = found_within g.row.D c.take-hole.result.0 c.captures.place here c.greatest_child-child.ensures in
    record { here = here; other = (found.1, omega (arith, found.0)) }

pub returns-then-at_most : goal.returns-then-at_most
returns-then-at_most g c =
    let hole = c.take-hole.ensures in
    let whole = refilled c.args.slots.items c.take-hole.result.0 _ _ hole.items hole.at hole.taken in
    let same = c.fill.ensures.items ∙ filled_at c.take-hole.result.0 c.take-hole.result.1 c.captures.place (sym hole.at) ∙ whole in
    let stays = rests g.met.J.Judge.total g.row.D c.take-hole.result.0 c.take-hole.result.1 c.captures.place (sym hole.at) c.greatest_child-child.ensures _ c.get.ensures
    (sym c.at_most.ensures.answer ∙ c.if-at_most.true) c.at_most.ensures.counted in
    record {
      same_slice = record { slice = c.fill.ensures.slice ∙ hole.slice; len = ap length same };
      sifted = rw same (rw whole at stays).sifts;
    }

pub returns : goal.returns
returns g c =
    let hole = c.take-hole.ensures in
    let moved = c.move_to.ensures in
    let item = c.take-hole.result.1 in
    let next = c.move_to.new.self in
    let child = c.greatest_child-child.result in
    let down = c.sift_hole_down in
    let whole = refilled c.args.slots.items c.take-hole.result.0 _ _ hole.items hole.at hole.taken in
    let found = found_within g.row.D c.take-hole.result.0 c.captures.place (sym hole.at) c.greatest_child-child.ensures in
    let long : length (filled next item) ≡ length c.take-hole.result.0.items =
    length-filled next item _ (sym moved.at) ∙ ap length (moved.items item) ∙ length-set c.take-hole.result.0.items c.captures.place _ in
    let on = Falls-from_SiftsDown g.row.D child down.result.1 (filled next item) down.result.0.items _ _ (omega (arith, found.1, long)) down.ensures.sifted in
    let gone = goes_down g.met.J.Judge.total g.row.D c.take-hole.result.0 item c.captures.place (sym hole.at) c.greatest_child-child.ensures _ c.get.ensures
    (sym c.at_most.ensures.answer ∙ c.if-at_most.false) next moved.at moved.items c.at_most.ensures.counted down.result.1 _ down.result.0.items on in
    record {
      same_slice = record { slice = down.ensures.slice ∙ moved.slice ∙ hole.slice; len = length_permutation _ _ down.ensures.sifted.permutation ∙ long ∙ ap length hole.items };
      sifted = (rw whole at gone).sifts;
    }
