use Rattle.dary_heap.proofs.Common.{◌≡◌, ◌+◌, ◌≤◌, ◌++◌, ℕ, List, length, [], ◌∷◌, vec_len, vec_capacity, ap, ◌∙◌, subst, arith, length-append, again, err_from_is_err_and, OnFalse, drained, if_yes, if_no, said, Yields-more}
use Rattle.dary_heap.proofs.heap.Extending.{came_both, ran_dry, ran_on}
use Rattle.dary_heap.proofs.heap.join.push_all.Goals as goal

-- with room for what came by two turns, the capacity stays
kept : {X : Type 0} (len capacity now new : ℕ) (xs ys : List X) → (len + length xs ≤ capacity → now ≡ capacity) → len + length (xs ++ ys) ≤ capacity → new ≡ now → new ≡ capacity
kept len capacity now new xs ys before fits same = same ∙ before (omega (arith, fits, length-append xs ys))

pub returns-then-ended-clause-came : goal.returns-then-ended-clause-came
returns-then-ended-clause-came g c =
    let ran = c.loop-rest.invariant in
    let came = c.replace_with-left.ensures.0 in
    (ran.seen ++ came.0, came_both _ _ _ _ ran.seen came.0 ran.holds.0 came.1, λ fits. kept _ _ _ _ ran.seen came.0 ran.holds.3 fits c.replace_with-left.ensures.1.1, ran_dry g.I.Iterator.remaining ran came.0 _ (if_yes _ _ c.if-ended.true came.3))

pub returns-in_default-clause-came : goal.returns-in_default-clause-came
returns-in_default-clause-came g c =
    let ran = c.loop-rest.invariant in
    let came = c.replace_with-left.ensures.0 in
    let on = ran_on g.I.Iterator.remaining ran came.0 _ {Q = λ _. Unit {0}} (if_no _ _ c.if-ended.false came.3) tt in
    (ran.seen ++ came.0, came_both _ _ _ _ ran.seen came.0 ran.holds.0 came.1, λ fits. kept _ _ _ _ ran.seen came.0 ran.holds.3 fits c.replace_with-left.ensures.1.1, drained on c.in_default.is c.next.ensures.steps)

pub returns-in_err-make_room-clause-came : goal.returns-in_err-make_room-clause-came
returns-in_err-make_room-clause-came g c =
    let ran = c.loop-rest.invariant in
    let came = c.replace_with-left.ensures.0 in
    let on = ran_on g.I.Iterator.remaining ran came.0 _ {Q = λ _. Unit {0}} (if_no _ _ c.if-ended.false came.3) tt in
    let full : vec_len c.replace_with-left.new.dest ≡ vec_capacity c.replace_with-left.new.dest =
    subst (λ b. OnFalse b (vec_len c.replace_with-left.new.dest ≡ vec_capacity c.replace_with-left.new.dest)) c.if-ended.false c.replace_with-left.ensures.1.0 in
    let p = err_from_is_err_and c.from_residual.result c.from_residual.ensures.1 in
    rw p.1 (
      ran.seen ++ came.0,
      c.make_room.ensures.items ∙ came_both _ _ _ _ ran.seen came.0 ran.holds.0 came.1,
      λ fits. c.in_err-make_room.ensures.same_capacity ∙ kept _ _ _ _ ran.seen came.0 ran.holds.3 fits c.replace_with-left.ensures.1.1,
      record {
        refused = c.in-Some.element;
        left = c.next.new.self;
        gave = Yields-more g.I.Iterator.next_gives _ on.seen _ c.in-Some.element c.next.new.self on.gave (said g.I.Iterator.next_gives c.in-Some.is c.next.ensures.steps);
        full = omega (arith, full, c.replace_with-left.ensures.1.1, came.2, ran.holds.1, ran.holds.2, length-append ran.seen came.0);
      },
    )

pub loop-rest-preserved : goal.loop-rest-preserved
loop-rest-preserved g c =
    let ran = c.loop-rest.invariant in
    let came = c.replace_with-left.ensures.0 in
    let x = c.in-Some.element in
    let on = ran_on g.I.Iterator.remaining ran came.0 _ {Q = λ _. Unit {0}} (if_no _ _ c.if-ended.false came.3) tt in
    let full : vec_len c.replace_with-left.new.dest ≡ vec_capacity c.replace_with-left.new.dest =
    subst (λ b. OnFalse b (vec_len c.replace_with-left.new.dest ≡ vec_capacity c.replace_with-left.new.dest)) c.if-ended.false c.replace_with-left.ensures.1.0 in
    let before = c.make_room.ensures.items ∙ came_both g.X.Element.value _ _ _ ran.seen came.0 ran.holds.0 came.1 in
    let more = c.push_reserved.ensures.items ∙ ap (λ y. c.make_room.new.items.items ++ y ∷ []) c.into_item.ensures in
    again on x c.in-Some.is (c.next.ensures.steps, c.next.ensures.goes) (
      came_both g.X.Element.value _ _ _ (ran.seen ++ came.0) (x ∷ []) before more,
      omega (arith, c.push_reserved.ensures.len, c.make_room.ensures.len, came.2, ran.holds.1, length-append ran.seen came.0, length-append (ran.seen ++ came.0) (x ∷ [])),
      omega (arith, c.push_reserved.ensures.capacity, c.make_room.ensures.capacity, c.replace_with-left.ensures.1.1, ran.holds.2),
      λ fits. absurd (omega (arith, fits, full, c.replace_with-left.ensures.1.1, came.2, ran.holds.1, ran.holds.2, length-append ran.seen came.0, length-append (ran.seen ++ came.0) (x ∷ []))),
    )

pub next-requires : goal.next-requires
next-requires g c = grind arith
