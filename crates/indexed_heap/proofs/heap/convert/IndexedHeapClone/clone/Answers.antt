use Rattle.dary_heap.proofs.Common.{◌≡◌, ℕ, [], length, sym, ap, ◌∙◌, arith, IsPermutation-refl}
use Rattle.dary_heap.proofs.Order.{none_ordered}
use Rattle.dary_heap.proofs.Placing.{keys_moved, right_keys}
use Rattle.dary_heap.proofs.heap.Cloning.{clones_same}
use Rattle.dary_heap.proofs.sift.Written.{none_counted}
use Rattle.std.proofs.lemmas.Bool.{eqb-true}
use Rattle.indexed_heap.specs.Entries.{Indexed}
use Rattle.dary_heap.specs.Places.{HaveKeys}
use Rattle.indexed_heap.specs.Places.{key_of}
use Rattle.indexed_heap.proofs.Copying.{clones_right}
use Rattle.indexed_heap.proofs.Placing.{no_entries}
use Rattle.indexed_heap.proofs.heap.convert.IndexedHeapClone.clone.Goals.{In_ok-entries}
use Rattle.indexed_heap.proofs.heap.convert.IndexedHeapClone.clone.Given.{Over}
use Rattle.indexed_heap.proofs.heap.convert.IndexedHeapClone.clone.Goals as goal

-- the table is copied as it is, and has a place for each key of the copy
keys : (g : Over) (c : In_ok-entries g) → HaveKeys key_of (length c.in_ok-places.places.items) c.in_ok-entries.entries.items
keys g c =
    let copy = c.in_ok-entries.ensures.cases in
    let same : c.in_ok-places.places.items ≡ c.self.inside.places.items = clones_same (λ (x y : ℕ). y ≡ x) c.self.inside.places.items c.in_ok-places.places.items (λ x y in' h. h) c.in_ok-places.ensures.cases.0 in
    keys_moved key_of copy.items c.in_ok-entries.entries.items copy.built.bag
    (right_keys key_of (clones_right g.T.Clone.is_clone c.self.inside.entries.items copy.items c.in_ok-places.places.items copy.cloned (rw same c.self.invariant)))

pub write_places-requires-clause-distinct : goal.write_places-requires-clause-distinct
write_places-requires-clause-distinct g c =
    rw c.as_slice.ensures.items record { once = (keys g (goal.at.write_places-requires-clause-distinct g c).In_ok-entries).distinct }

pub write_places-requires-clause-inside : goal.write_places-requires-clause-inside
write_places-requires-clause-inside g c =
    rw (c.as_slice.ensures.items, c.as_mut_slice.ensures.value) (keys g (goal.at.write_places-requires-clause-inside g c).In_ok-entries).below

pub returns : goal.returns
returns g c =
    let copy = c.in_ok-entries.ensures.cases in
    record {
      cases = rw (← c.self.view_is) (record {
        copied = record {
          items = copy.items;
          cloned = copy.cloned;
          judge = copy.judge.items;
          compared = copy.compared;
          judge_copy = copy.judge_copy.items;
          judge_cloned = copy.judge_cloned;
          built = copy.built;
        };
        keys = c.in_ok-places.ensures.cases.1;
      });
    }

pub returns-then-is_empty : goal.returns-then-is_empty
returns-then-is_empty g c =
    let places = c.self.inside.places in
    let none : length places.items ≡ 0 = omega (arith, places.ok.0, eqb-true _ 0 (sym c.is_empty.ensures ∙ c.if-is_empty.true)) in
    let gone = no_entries c.self.invariant none in
    record {
      cases = rw (← c.self.view_is) (record {
        copied = record {
          items = [];
          cloned = rw gone tt;
          judge = c.judge.result.now;
          compared = c.judge.ensures.counted ∙ ap (λ (h : Indexed g.row.T.Denot). h.comparisons) (sym c.self.view_is);
          judge_copy = c.in_ok-judge.judge;
          judge_cloned = c.in_ok-judge.ensures.cases;
          built = record {
            bag = rw c.with_judge.ensures.entries (IsPermutation-refl []);
            ordered = none_ordered _ c.with_judge.ensures.entries;
            len = ap length c.with_judge.ensures.entries;
            unchanged = λ ordered. c.with_judge.ensures.entries;
            counted = rw c.with_judge.ensures.comparisons (none_counted _ _);
          };
        };
        keys = c.with_judge.ensures.keys ∙ sym (places.ok.0 ∙ none);
      });
    }
