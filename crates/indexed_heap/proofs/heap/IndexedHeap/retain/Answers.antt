use Rattle.dary_heap.proofs.Common.{rules, inl, inr}
use Rattle.indexed_heap.proofs.Filtering.{entries_in_turn, inner_may, inner_returns, kept_keys}
use Rattle.indexed_heap.proofs.Sound.{sound}
use Rattle.indexed_heap.specs.Filtering.{TakesEntriesInTurn}
use Rattle.indexed_heap.proofs.heap.IndexedHeap.retain.Goals as goal

pub retain-requires : goal.retain-requires
retain-requires g c =
    let entries = c.self.inside.entries.items in
    let in_turn : TakesEntriesInTurn g.F.FnMut c.args.f entries = elim c.requires [ inl always ↦ entries_in_turn g.F.FnMut c.args.f entries always | inr in_turn ↦ rw (← c.self.view_is) at in_turn ] in
    (search rules, inner_may g.F.FnMut entries (λ p. p.0.now) (λ p shown answer q h. h.met.1) (λ p shown h. h) in_turn)

pub returns-clause-retained : goal.returns-clause-retained
returns-clause-retained g c =
    let kept = c.retain.ensures.retained in
    rw (← c.self.view_is) (record {
      answers = kept.answers;
      after = kept.after.0.now;
      all = kept.all;
      asked = inner_returns g.F.FnMut _ (λ p. p.0.now) (λ p shown answer q h. h.met.1) _ kept.answers c.self.inside.entries.items kept.after kept.asked;
      bag = kept.bag;
      unchanged = kept.unchanged;
      counted = kept.counted;
    })

-- the keys are those of entries that were there
pub write_places-requires-clause-distinct : goal.write_places-requires-clause-distinct
write_places-requires-clause-distinct g c =
    rw c.as_slice.ensures.items record { once = (kept_keys c.self.inside.entries.items c.self.inside.places.items _ c.retain.new.self.items c.self.invariant c.retain.ensures.retained.bag).distinct }

pub write_places-requires-clause-inside : goal.write_places-requires-clause-inside
write_places-requires-clause-inside g c =
    rw (c.as_slice.ensures.items, c.as_mut_slice.ensures.value)
    (kept_keys c.self.inside.entries.items c.self.inside.places.items _ c.retain.new.self.items c.self.invariant c.retain.ensures.retained.bag).below

pub returns-clause-sound : goal.returns-clause-sound
returns-clause-sound g c = sound g.row.D c.retain.new.self.items c.write_places.new.places c.retain.ensures.ordered (rw c.as_slice.ensures.items at c.write_places.ensures.right)
