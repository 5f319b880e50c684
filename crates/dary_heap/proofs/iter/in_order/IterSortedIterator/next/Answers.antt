use Rattle.dary_heap.proofs.{◌≡◌, ◌<◌, ◌∙◌, ℕ, vec_capacity, Bor, arith, refl, slice_get_within}
use Rattle.dary_heap.proofs.iter.Candidates.{candidates_stay, given_stands, given_step, has_room, next_counted, one_more, others_stand, rest_below, rest_greatest, some_room}
use Rattle.dary_heap.proofs.iter.in_order.IterSortedIterator.next.Goals as goal

pub children-first-requires : goal.children-first-requires
children-first-requires g c =
    let inside = c.self.inside in
    let some : 0 < inside.left = omega (arith, c.if-self-eq0.false) in
    slice_get_within inside.items.now c.in_ok-item.place c.in_ok-item.item.now
    (given_stands _ g.row.D inside.items.now inside.candidates.items inside.left _ c.self.invariant some (c.in_ok-item.item, c.in_ok-item.place) c.pop_ordered.new.items.items c.in_ok-item.ensures.bag)

pub push_row-requires-clause-room : goal.push_row-requires-clause-room
push_row-requires-clause-room g c =
    let inside = c.self.inside in
    let popped = c.in_ok-item.ensures in
    let some : 0 < inside.left = omega (arith, c.if-self-eq0.false) in
    let room = has_room _ g.row.D inside.items.now inside.candidates.items inside.left _ c.self.invariant some (c.in_ok-item.item, c.in_ok-item.place) c.pop_ordered.new.items.items popped.bag
    c.children-first.result.0 c.children-first.result.1 c.children-first.ensures.first c.children-first.ensures.end in
    omega (arith, room, popped.capacity, c.pop_ordered.new.items.ok.0)

pub invariant_of-self-2 : goal.invariant_of-self-2
invariant_of-self-2 g c =
    let inside = c.self.inside in
    let popped = c.in_ok-item.ensures in
    let some : 0 < inside.left = omega (arith, c.if-self-eq0.false) in
    let mid = c.pop_ordered.new.items in
    let pushed = c.push_row.ensures in
    let stand = others_stand _ g.row.D inside.items.now inside.candidates.items inside.left _ c.self.invariant some (c.in_ok-item.item, c.in_ok-item.place) mid.items popped.bag in
    let stays = candidates_stay _ g.row.D inside.items.now inside.candidates.items inside.left _ c.self.invariant some (c.in_ok-item.item, c.in_ok-item.place) mid.items popped.bag
    c.children-first.result.0 c.children-first.result.1 c.children-first.ensures.first c.children-first.ensures.end c.push_row.new.candidates.items pushed.places (pushed.stand stand) pushed.ordered
    (omega (arith, pushed.len, mid.ok.0, c.push_row.new.candidates.ok.0)) in
    rw (pushed.capacity ∙ popped.capacity) stays

pub returns-clause-steps : goal.returns-clause-steps
returns-clause-steps g c =
    let inside = c.self.inside in
    let popped = c.in_ok-item.ensures in
    let was = c.self.invariant in
    let item : Bor g.row.T.Denot × ℕ = (c.in_ok-item.item, c.in_ok-item.place) in
    let some : 0 < inside.left = omega (arith, c.if-self-eq0.false) in
    let mid = c.pop_ordered.new.items in
    let new = c.push_row.new.candidates in
    let pushed = c.push_row.ensures in
    let step = given_step _ g.row.D inside.items.now inside.candidates.items inside.left _ was some item mid.items popped.bag
    c.children-first.result.0 c.children-first.result.1 c.children-first.ensures.first c.children-first.ensures.end new.items pushed.places in
    let room = some_room _ g.row.D inside.items.now inside.candidates.items inside.left _ was some in
    let same : vec_capacity new ≡ vec_capacity inside.candidates = pushed.capacity ∙ popped.capacity in
    rw (← c.self.view_is, rest_below g.row.D inside.items.now inside.candidates.items (vec_capacity inside.candidates) room, rest_below g.row.D inside.items.now new.items (vec_capacity new) (rw same room))
    record {
      variant = (λ _. some, λ _. refl);
      greatest = rest_greatest g.row.D inside.items.now g.met.J.Judge.total was.ordered item inside.candidates.items _ was.stand popped.greatest step;
      bag = step;
      given = one_more _ g.row.D inside.items.now inside.candidates.items inside.left _ was some item mid.items popped.bag
          c.children-first.result.0 c.children-first.result.1 c.children-first.ensures.first c.children-first.ensures.end new.items pushed.places;
      left = refl;
      counted = next_counted _ g.row.D inside.items.now inside.candidates.items inside.left _ was some item mid.items popped.bag
          c.children-first.result.0 c.children-first.result.1 c.children-first.ensures.first c.children-first.ensures.end new.items pushed.places _ _ _ _
          (omega (arith, pushed.len, mid.ok.0)) popped.counted pushed.counted;
      room = pushed.capacity ∙ popped.capacity;
      unchanged = tt;
    }
