use Rattle.dary_heap.proofs.Common.{◌≢◌, ◌<◌, List, length, subst, sym, ap, ◌∙◌, arith, length_permutation, length-swap, swap, SiftsUp}
use Rattle.dary_heap.proofs.hole.Holes.{refilled, move_swaps}
use Rattle.dary_heap.proofs.sift.paths.fn.sift_up.with_slots.Goals as goal

pub returns : goal.returns
returns g c =
    let hole = c.take-hole.ensures in let at = c.captures.place in let p = c.captures.parent in
    let next = c.move_to.ensures in let sifted = c.sift_hole_up.ensures.sifted in
    let whole = refilled c.args.slots.items c.take-hole.result.0 _ _ hole.items hole.at hole.taken in
    let near : p < length c.take-hole.result.0.items = omega (arith, c.requires.0, c.requires.1, ap length hole.items) in
    let apart : p ≢ at = omega (arith, c.requires.1) in
    let swapped = move_swaps c.take-hole.result.0 c.take-hole.result.1 at (sym hole.at) c.move_to.new.self p near apart next.at next.items ∙ ap (λ l. swap l at p) whole in
    record {
      same_slice = record { slice = c.sift_hole_up.ensures.slice ∙ next.slice ∙ hole.slice; len = length_permutation _ _ sifted.permutation ∙ ap length swapped ∙ length-swap _ _ _ };
      sifted = subst (λ (items : List g.row.T.Denot). SiftsUp g.J.Judge.order g.row.D p c.sift_hole_up.result.1 items c.sift_hole_up.result.0.items (g.J.Judge.count c.args.judge.now)
          (g.J.Judge.count c.sift_hole_up.new.judge)) swapped sifted;
    }
