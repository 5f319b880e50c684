use Rattle.dary_heap.proofs.{◌≡◌, ◌++◌, ◌∷◌, [], length, take, min, refl, sym, ap, ◌∙◌, arith, append_assoc, length-append, drain_rest, zero-le, same_state}
use Rattle.std.proofs.lemmas.Bool.{some_since}
use Rattle.std.proofs.lemmas.List.{take_min}
use Rattle.dary_heap.proofs.run.Serving.{refused, serves_emptied, serves_same}
use Rattle.dary_heap.proofs.sift.Written.{none_counted, written_back}
use Rattle.dary_heap.proofs.run.drain.Goals as goal

pub returns-in_default : goal.returns-in_default
returns-in_default g c = serves_same refl c.len.ensures.ordered (refused _ c.args.count _ _ c.len.ensures.len c.min-count.ensures c.in_default.ensures.succeeds) tt zero-le refl tt

pub unwrap-requires : goal.unwrap-requires
unwrap-requires g c =
    let before = c.loop.invariant in
    some_since c.next.result _ _ c.next.ensures.steps (λ none.
    omega (
      arith,
      c.loop-test.true,
      c.min-count.ensures,
      c.len.ensures.len,
      ap length c.drain-rest.ensures.items,
      ap length before.parts,
      length-append c.loop.taken.items (drain_rest c.loop.rest),
      c.loop.taken.ok.0,
      before.long,
      ap length none.0,
    ))

pub loop-preserved : goal.loop-preserved
loop-preserved g c =
    let before = c.loop.invariant in
    let x = c.unwrap.result in
    let was = rw c.unwrap.ensures at c.next.ensures.steps in
    record {
      parts = before.parts ∙ ap (λ xs. c.loop.taken.items ++ xs) was ∙ sym (append_assoc c.loop.taken.items (x ∷ []) (drain_rest c.next.new.self))
          ∙ sym (ap (λ xs. xs ++ (drain_rest c.next.new.self)) c.push_reserved.ensures.items);
      long = omega (arith, c.push_reserved.ensures.len, before.long);
      space = omega (arith, c.push_reserved.ensures.capacity, before.space);
    }

pub returns : goal.returns
returns g c =
    let before = c.loop.invariant in
    let m = min c.args.count (length c.args.heap.now.items) in
    let long : length c.loop.taken.items ≡ m = omega (arith, c.min-count.ensures, c.len.ensures.len, c.loop.taken.ok.0, before.long, c.loop.auto.counter-end, c.loop-test.false) in
    let taken = ap (λ xs. take m xs) (sym c.drain-rest.ensures.items ∙ before.parts) ∙ written_back m c.loop.taken.items (drain_rest c.loop.rest) long in
    serves_emptied refl ((c.args.heap.now.items, same_state _ _ refl, sym taken ∙ take_min c.args.count c.args.heap.now.items), refl) (none_counted _ _) tt zero-le refl tt
