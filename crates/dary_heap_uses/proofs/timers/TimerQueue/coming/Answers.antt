use Rattle.dary_heap_uses.proofs.{ap, arith, come_next, refl, sym, ◌++◌, ◌∙◌, ◌∷◌, []}
use Rattle.dary_heap.proofs.Common.{map-append}
use Rattle.dary_heap_uses.proofs.Taking.{shown_timer}
use Rattle.dary_heap_uses.proofs.timers.TimerQueue.coming.Goals as goal

pub loop-name-init : goal.loop-name-init
loop-name-init g c =
    let room = c.in_ok-coming.ensures in
    record { written = room.items; room = omega (arith, room.len, room.capacity, c.len.ensures.value, ap (λ it. it.left) c.into_iter-name-iterator.ensures.into_iter_gives) }

pub push_reserved-requires : goal.push_reserved-requires
push_reserved-requires g c = omega (arith, c.loop-name.invariant.room, c.in-Some.ensures.steps.variant.0 refl)

pub loop-name-preserved : goal.loop-name-preserved
loop-name-preserved g c =
    let before = c.loop-name.invariant in
    let pushed = c.push_reserved.ensures in
    let step = c.in-Some.ensures.steps in
    record {
      written = pushed.items ∙ ap (λ l. l ++ (c.in-Some.name, c.in-Some.timer.now.0) ∷ []) before.written ∙ sym (map-append shown_timer c.loop-name.yielded ((c.in-Some.name, c.in-Some.timer) ∷ []));
      room = omega (arith, before.room, pushed.len, pushed.capacity, step.left, step.variant.0 refl);
    }

pub returns-clause-next : goal.returns-clause-next
returns-clause-next g c =
    rw (← c.self.view_is, c.loop-name.invariant.written) (come_next c.self.inside.waiting.entries c.self.invariant g.row.D c.args.most c.into_iter-name-iterator.result c.loop-name.yielded
    (rw c.into_iter-name-iterator.ensures.into_iter_gives c.in_ok-timers.ensures.starts) (_, (c.loop-name.name-iterator, c.loop-name.yielded_by, c.in-None.ensures.steps)))
