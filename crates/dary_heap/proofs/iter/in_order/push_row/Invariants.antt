use Rattle.dary_heap.proofs.{◌≡◌, ◌+◌, ◌-◌, ◌*◌, ◌≤◌, ◌++◌, length, vec_len, vec_capacity, IsHeapOrdered}
use Rattle.std.specs.List.{range_with_len}
use Rattle.dary_heap.specs.Bag.{IsSameBag}
use Rattle.dary_heap.specs.Bounds.{RisesWithin, push_bound}
use Rattle.dary_heap.specs.iter.Candidates.{StandAtPlaces, by_shown, places_of}
use Rattle.dary_heap.proofs.iter.in_order.push_row.Given as goal

-- the places from first up to here came to the candidates
abbrev pub invariant-loop-place : goal.invariant-loop-place
invariant-loop-place g l = record {
  within : (l.first ≤ l.place) × (l.place ≤ l.end) × (l.end ≤ length l.items);
  places : IsSameBag (range_with_len l.first (l.place - l.first) ++ places_of l.initial.candidates.items) (places_of l.candidates.items);
  stand : StandAtPlaces l.items l.initial.candidates.items → StandAtPlaces l.items l.candidates.items;
  ordered : IsHeapOrdered (by_shown g.J.Judge.order) 4 l.candidates.items;
  len : vec_len l.candidates ≡ vec_len l.initial.candidates + (l.place - l.first);
  counted : RisesWithin (g.J.Judge.count l.initial.judge.items) (g.J.Judge.count l.judge.items) ((l.place - l.first) * push_bound 4 (vec_len l.initial.candidates + (l.end - l.first) - 1));
  capacity : vec_capacity l.candidates ≡ vec_capacity l.initial.candidates;
}
