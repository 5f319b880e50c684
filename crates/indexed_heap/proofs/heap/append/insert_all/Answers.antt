use Rattle.dary_heap.proofs.Common.{◌≡◌, ℕ, suc, ◌+◌, ◌-◌, ◌*◌, ◌<◌, ◌≤◌, List, ◌∷◌, Some, if◌then◌else◌, length, drop, ap, arith, is_some, refl, sym, ◌∙◌, subst, slice_get, slice_get_within, RisesWithin, sink_bound}
use Rattle.dary_heap.proofs.sift.Removing.{swap_removes}
use Rattle.indexed_heap.specs.Entries.{Gets}
use Rattle.indexed_heap.proofs.Appending.{AreJoined, AreMoved, at_most_one, count_one, drop_last, if_ok, inserts_within, joins_one, on_ok}
use Rattle.indexed_heap.proofs.heap.append.insert_all.Goals.{After-insert}
use Rattle.indexed_heap.proofs.heap.append.insert_all.Given.{Over}
use Rattle.indexed_heap.proofs.heap.append.insert_all.Goals as goal

-- the entries are moved from the last to the first
step : (g : Over) (c : After-insert g) → AreMoved g.J.Judge.order g.row.D c.args.heap.now c.args.entries.now c.insert.new.self c.remove_at_returning_place-key.new.self
step g c =
    let so_far = c.loop-entries.invariant in
    let old = c.args.entries.now.items in let left = c.loop-entries.entries.items in let now = c.loop-entries.heap in
    let taken = c.remove_at_returning_place-key in let entry = taken.result.0 in
    let last = c.len-last.result - 1 in
    let there : slice_get left last ≡ Some entry = taken.ensures.item in
    let inside : last < length left = slice_get_within left last entry there in
    let stood : slice_get old last ≡ Some entry = sym (so_far.same last inside) ∙ there in
    let shorter : length taken.new.self.items ≡ last = omega (arith, taken.ensures.len, c.len-last.ensures.len) in
    let none = taken.ensures.last (omega (arith, shorter)) in
    let room : length now.entries < now.capacity = omega (arith, so_far.long, so_far.capacity, c.requires.room, inside) in
    let keyed : entry.0 < now.keys = omega (arith, c.requires.keyed last entry.0 (record { entry = entry; there = stood; has = refl }), so_far.keys) in
    let ok = c.insert.ensures.stores.succeeds room keyed in
    let given = if_ok (λ given. Gets entry.0 entry.1 now.entries given c.insert.new.self.entries) c.insert.result ok c.insert.ensures.gets in
    let long = if_ok (λ given. length c.insert.new.self.entries ≡ length now.entries + (if is_some given then 0 else 1)) c.insert.result ok c.insert.ensures.len in
    let inside_old : last < length old = omega (arith, inside, so_far.fewer) in
    let next : suc last ≡ length left = omega (arith, inside, c.len-last.ensures.len) in
    let later : drop (length taken.new.self.items) old ≡ entry ∷ drop (length left) old =
    ap (λ (n : ℕ). drop n old) shorter ∙ drop_last old left last entry so_far.same there inside_old ∙ ap (λ (n : ℕ). entry ∷ drop n old) next in
    let m = length c.args.heap.now.entries + length old in
    let one = inserts_within g.row.D entry.0 now.comparisons c.insert.new.self.comparisons now.entries (on_ok c.insert.result ok c.insert.ensures.counted) in
    let few : length now.entries ≤ m = omega (arith, so_far.long) in
    let counted = count_one g.row.D c.args.heap.now.comparisons now.comparisons c.insert.new.self.comparisons (length old - length left) (length now.entries) m so_far.counted few one in
    let more : (length old - length left) + 1 ≡ length old - length taken.new.self.items = omega (arith, shorter, inside, so_far.fewer, next) in
    record {
      fewer = omega (arith, so_far.fewer, shorter, inside);
      same = λ i less. rw none.0 ((swap_removes left last entry inside).others i (omega (arith, less, shorter)) (rw none.0 at less)) ∙ so_far.same i (omega (arith, less, shorter, inside));
      joined = subst (λ (l : List (ℕ × g.row.T.Denot)). AreJoined l c.args.heap.now.entries c.insert.new.self.entries) (sym later)
          (joins_one entry (drop (length left) old) c.args.heap.now.entries now.entries c.insert.new.self.entries given.0 so_far.joined given.1 c.insert.ensures.sound.distinct);
      sound = c.insert.ensures.sound;
      long = omega (arith, long.1, at_most_one (is_some long.0), so_far.long, shorter, inside, next);
      capacity = c.insert.ensures.stores.kept room ∙ so_far.capacity;
      keys = c.insert.ensures.stores.keyed keyed ∙ so_far.keys;
      counted = subst (λ (k : ℕ). RisesWithin c.args.heap.now.comparisons c.insert.new.self.comparisons (k * (sink_bound g.row.D m + 1))) more counted;
      uncounted = none.2 ∙ so_far.uncounted;
      same_capacity = taken.ensures.capacity ∙ so_far.same_capacity;
    }

pub loop-entries-preserved-in-loop-entries : goal.loop-entries-preserved-in-loop-entries
loop-entries-preserved-in-loop-entries g c = step g (goal.at.loop-entries-preserved-in-loop-entries g c).After-insert

pub loop-entries-preserved-in-loop-entries-2 : goal.loop-entries-preserved-in-loop-entries-2
loop-entries-preserved-in-loop-entries-2 g c = step g (goal.at.loop-entries-preserved-in-loop-entries-2 g c).After-insert

pub loop-entries-preserved : goal.loop-entries-preserved
loop-entries-preserved g c = step g (goal.at.loop-entries-preserved g c).After-insert
