use Rattle.dary_heap.proofs.Common.{List, length, sym, subst, ap, ◌∙◌, length_permutation, SiftsToBottom}
use Rattle.dary_heap.proofs.hole.Holes.{refilled}
use Rattle.dary_heap.proofs.sift.Sifting.{ComesTo-begins}
use Rattle.dary_heap.proofs.sift.one_item.fn.sift_to_bottom_with.with_slots.Goals as goal

pub returns-then-guesses : goal.returns-then-guesses
returns-then-guesses g c =
    let hole = c.take-hole.ensures in
    let whole = refilled c.args.slots.items c.take-hole.result.0 _ _ hole.items hole.at hole.taken in
    let done = c.sift_hole_to_bottom_by_guesses in
    let sifted = done.ensures.sifted in
    record {
      same_slice = record { slice = done.ensures.slice ∙ hole.slice; len = length_permutation _ _ sifted.permutation ∙ ap length whole };
      sifted = subst (λ (items : List g.row.T.Denot). SiftsToBottom g.J.Judge.order g.row.D done.result.1 items done.result.0.items (g.J.Judge.count c.args.judge.now)
          (g.J.Judge.count done.new.judge)) whole sifted;
    }

pub returns-else-guesses : goal.returns-else-guesses
returns-else-guesses g c =
    let hole = c.take-hole.ensures in
    let first = c.take-hole.result.0 in
    let whole = refilled c.args.slots.items first _ _ hole.items hole.at hole.taken in
    let done = c.sift_hole_to_bottom in
    let sifted = done.ensures.sifted first _ hole.at (ComesTo-begins g.row.D first 0 _ (sym hole.at)) in
    record {
      same_slice = record { slice = done.ensures.slice ∙ hole.slice; len = length_permutation _ _ sifted.permutation ∙ ap length whole };
      sifted = subst (λ (items : List g.row.T.Denot). SiftsToBottom g.J.Judge.order g.row.D done.result.1 items done.result.0.items (g.J.Judge.count c.args.judge.now)
          (g.J.Judge.count done.new.judge)) whole sifted;
    }
