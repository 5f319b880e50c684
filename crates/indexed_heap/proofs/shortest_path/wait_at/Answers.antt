use Rattle.dary_heap.proofs.Common.{inl, inr, sym, arith, true≢false}
use Rattle.dary_heap.proofs.Depth.{depth-later}
use Rattle.indexed_heap.proofs.shortest_path.Waiting.{all_few, has_room, raised, stays_ready}
use Rattle.indexed_heap.proofs.shortest_path.wait_at.Goals as goal

pub unreachable-requires : goal.unreachable-requires
unreachable-requires g c = elim (has_room c.requires.ready c.args.node c.requires.within) [
  | inl there ↦ true≢false (sym (c.in_default.ensures.stores.present there.0 there.1))
  | inr room ↦ true≢false (sym (c.in_default.ensures.stores.succeeds room (omega (arith, c.requires.within, c.requires.ready.keyed))))
]

pub returns-clause-waits : goal.returns-clause-waits
returns-clause-waits g c =
    let done = c.in-Ok.ensures in
    raised c.requires.ready c.requires.lower c.in-Ok.field-0 (rw g.met.J.JudgesByOrd.by_ord at done.raised) (rw g.met.J.JudgesByOrd.by_ord at done.reached)

pub returns-clause-ready : goal.returns-clause-ready
returns-clause-ready g c =
    let done = c.in-Ok.ensures in
    stays_ready c.requires.ready c.requires.within (returns-clause-waits g c) done.sound.distinct done.stores.capacity done.stores.keys

pub returns-clause-room : goal.returns-clause-room
returns-clause-room g c =
    let done = c.in-Ok.ensures in
    record {
      capacity = elim (has_room c.requires.ready c.args.node c.requires.within) [
        | inl there ↦ done.stores.roomy there.0 there.1
        | inr room ↦ done.stores.kept room
      ];
      keys = done.stores.keyed (omega (arith, c.requires.within, c.requires.ready.keyed));
    }

pub returns-clause-counted : goal.returns-clause-counted
returns-clause-counted g c =
    let done = c.in-Ok.ensures.counted in
    record { rises = done.rises; within = omega (arith, done.within, depth-later g.row.D _ _ (all_few c.requires.ready)) }
