use Rattle.std.proofs.Common.{arith, refl, sym, ap, ◌∙◌, ◌≡◌, ◌≢◌, ◌<◌, ◌-◌, Some, List, [], ℕ, slice_get, subst, length}
use Rattle.dary_heap.proofs.Common.{slice_get_read}
use Rattle.std.proofs.Common.{reverse, ◌∷◌}
use Rattle.std.proofs.lemmas.List.{reverse-append}
use Rattle.graph_search.proofs.Searching.{how_at}
use Rattle.graph_search.proofs.Reading.{name_of, number_read, read_more, slot_of, taken_of}
use Rattle.graph_search.specs.Searching.{IsTaken, AreReadBack}
use Rattle.graph_search.proofs.search.way_to.Goals as goal

pub loop-place-init : goal.loop-place-init
loop-place-init g c =
    record {
      within = omega (arith, c.len-place.ensures, c.requires.traced.some, c.args.taken.now.ok.0);
      slots = λ k i u low at there. slot_of c.args.names.keys c.in_ok-slots.slots.items i u c.in_ok-slots.ensures.slots there;
      read = rw c.new-way.ensures.items (omega (arith, c.len-place.ensures, c.args.taken.now.ok.0));
    }

pub take_from-requires : goal.take_from-requires
take_from-requires g c =
    let names = c.args.names.keys in let reached = c.args.reached.now.items in let taken = c.args.taken.now.items in let T = c.requires.traced in
    let at = number_read names reached taken c.loop-place.place c.index-number.result.now c.loop-place.invariant.within c.index-number.ensures in
    let u = name_of names reached taken T c.loop-place.place c.index-number.result.now at in
    (u.0, c.loop-place.invariant.slots c.loop-place.place c.index-number.result.now u.0 (omega arith) at u.1)

pub index-requires : goal.index-requires
index-requires g c =
    let names = c.args.names.keys in let reached = c.args.reached.now.items in let taken = c.args.taken.now.items in let T = c.requires.traced in
    let at = number_read names reached taken c.loop-place.place c.index-number.result.now c.loop-place.invariant.within c.index-number.ensures in
    omega (arith, (T.inside c.loop-place.place c.index-number.result.now at).1, c.args.reached.now.ok.0)

pub loop-place-smaller : goal.loop-place-smaller
loop-place-smaller g c =
    let names = c.args.names.keys in let reached = c.args.reached.now.items in let taken = c.args.taken.now.items in let T = c.requires.traced in
    let place = c.loop-place.place in let number = c.index-number.result.now in let how = c.index.result.now in let before = c.loop-place.invariant in
    let at : slice_get taken place ≡ Some number = number_read names reached taken place number before.within c.index-number.ensures in
    let costs : slice_get reached number ≡ Some how = slice_get_read reached (length reached) number how refl (T.inside place number at).1 c.index.ensures in
    let other : place ≢ 0 = λ e. omega (arith, e, c.loop-place-test.true) in
    let earlier : how.before < place = T.order place number how at costs other in
    earlier

pub loop-place-preserved : goal.loop-place-preserved
loop-place-preserved g c =
    let names = c.args.names.keys in let reached = c.args.reached.now.items in let taken = c.args.taken.now.items in let T = c.requires.traced in
    let place = c.loop-place.place in let number = c.index-number.result.now in let how = c.index.result.now in let before = c.loop-place.invariant in
    let at : slice_get taken place ≡ Some number = number_read names reached taken place number before.within c.index-number.ensures in
    let costs : slice_get reached number ≡ Some how = slice_get_read reached (length reached) number how refl (T.inside place number at).1 c.index.ensures in
    let other : place ≢ 0 = λ e. omega (arith, e, c.loop-place-test.true) in
    let earlier : how.before < place = T.order place number how at costs other in
    let t : IsTaken names reached taken place c.take_from.result how = taken_of names reached taken T place number c.take_from.result how c.loop-place.slots.items (λ i u. before.slots place i u (omega arith)) at c.take_from.ensures.node costs in
    record {
      within = omega (arith, earlier, before.within);
      slots = λ k i u low here there.
          c.take_from.ensures.others i (λ same. omega (arith, earlier, low, T.once k place i here (at ∙ ap (λ (n : ℕ). Some n) (sym same))))
          ∙ before.slots k i u (omega (arith, earlier, low)) here there;
      read = subst (λ (l : List g.row.N.Denot). AreReadBack names reached taken (length taken - 1) l how.before) (sym c.in_ok-push.ensures.items)
          (read_more names reached taken (length taken - 1) place c.loop-place.way.items c.take_from.result how before.read t other);
    }

pub take_from-requires-2 : goal.take_from-requires-2
take_from-requires-2 g c =
    let names = c.args.names.keys in let reached = c.args.reached.now.items in let taken = c.args.taken.now.items in let T = c.requires.traced in
    let number = c.index-2.result.now in let before = c.loop-place.invariant in
    let first : c.loop-place.place ≡ 0 = omega (arith, c.loop-place-test.false) in
    let at : slice_get taken 0 ≡ Some number = number_read names reached taken 0 number T.some c.index-2.ensures in
    let u = name_of names reached taken T 0 number at in
    (u.0, before.slots 0 number u.0 (omega arith) at u.1)

pub returns : goal.returns
returns g c =
    let names = c.args.names.keys in let reached = c.args.reached.now.items in let taken = c.args.taken.now.items in let T = c.requires.traced in
    let number = c.index-2.result.now in let before = c.loop-place.invariant in
    let first : c.loop-place.place ≡ 0 = omega (arith, c.loop-place-test.false) in
    let at : slice_get taken 0 ≡ Some number = number_read names reached taken 0 number T.some c.index-2.ensures in
    let how = how_at reached number (T.inside 0 number at).1 in
    record {
      read = record {
        first = c.take_from-2.result;
        how = how.0;
        nodes = c.loop-place.way.items;
        back = subst (λ (m : ℕ). AreReadBack names reached taken (length taken - 1) c.loop-place.way.items m) first before.read;
        begins = taken_of names reached taken T 0 number c.take_from-2.result how.0 c.loop-place.slots.items (λ i u. before.slots 0 i u (omega arith)) at c.take_from-2.ensures.node how.1;
        is = c.reverse.ensures.items ∙ ap reverse c.in_ok-push-2.ensures.items ∙ reverse-append c.loop-place.way.items (c.take_from-2.result ∷ []);
      };
    }
