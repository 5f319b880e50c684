use Rattle.dary_heap.proofs.{◌≡◌, ◌-◌, ◌<◌, ℕ, List, ◌∷◌, length, sym, ap, subst, ◌∙◌, arith, inr, Some, slice_get, slice_get-get_or, length_permutation, IsPermutation, IsPermutation-cons, IsPermutation-trans}
use Rattle.dary_heap.proofs.{◌+◌, ◌*◌, arity, depth, depth-zero, fix_bound, sink_bound, RisesWithin}
use Rattle.std.specs.List.{swap_remove}
use Rattle.std.proofs.lemmas.List.Sorted.{IsPermutation-swap_remove}
use Rattle.dary_heap.specs.Path.{GoesTo, GoesUp}
use Rattle.dary_heap.proofs.sift.{Removes, swap_removes, first_moved_ordered, last_ordered, moved_ordered, written_back}
use Rattle.dary_heap.proofs.heap.DaryHeap.remove_at_returning_place.Goals.{After-swap_remove-item, After-sift_to_bottom_with-stop, After-fix_with-stop}
use Rattle.dary_heap.proofs.heap.DaryHeap.remove_at_returning_place.Given.{Over}
use Rattle.dary_heap.proofs.heap.DaryHeap.remove_at_returning_place.Goals as goal

inside : (g : Over) (c : After-swap_remove-item g) → c.args.place < length c.self.inside.items.items
inside g c = rw (← c.self.view_is) at c.requires

-- the item is gone
gone : (g : Over) (c : After-swap_remove-item g) → Removes c.self.inside.items.items c.swap_remove-item.new.self.items c.args.place
gone g c = rw c.swap_remove-item.ensures.items (swap_removes c.self.inside.items.items c.args.place c.swap_remove-item.result (inside g c))

-- and is returned
came : (g : Over) (c : After-swap_remove-item g) → slice_get c.args.self.now.items c.args.place ≡ Some c.swap_remove-item.result
came g c =
    rw (← c.self.view_is) (slice_get-get_or c.self.inside.items.items c.args.place c.swap_remove-item.result (inside g c) ∙ ap Some (sym c.swap_remove-item.ensures.value))

-- the others stay
rest : (g : Over) (c : After-swap_remove-item g) → IsPermutation c.args.self.now.items (c.swap_remove-item.result ∷ c.swap_remove-item.new.self.items)
rest g c =
    rw (← c.self.view_is, c.swap_remove-item.ensures.items)
    (IsPermutation-swap_remove c.self.inside.items.items c.args.place c.swap_remove-item.result (inside g c) c.swap_remove-item.ensures.value)

-- it was the last
pub returns-then-len-place-clause-bag : goal.returns-then-len-place-clause-bag
returns-then-len-place-clause-bag g c = rest g (goal.at.returns-then-len-place-clause-bag g c).After-swap_remove-item

pub returns-then-len-place-clause-ordered : goal.returns-then-len-place-clause-ordered
returns-then-len-place-clause-ordered g c =
    let new = c.swap_remove-item.new.self in
    last_ordered g.met.J.Judge.total g.row.D c.self.inside.items.items new.items c.args.place (gone g (goal.at.returns-then-len-place-clause-ordered g c).After-swap_remove-item) c.self.invariant
    (omega (arith, c.if-len-place.true, c.len.ensures, new.ok.0))

-- as many items are left
settled : (g : Over) (c : After-sift_to_bottom_with-stop g) → length c.sift_to_bottom_with-stop.new.items ≡ c.swap_remove-item.new.self.len
settled g c = length_permutation _ _ c.sift_to_bottom_with-stop.ensures.bag ∙ c.as_mut_slice-rest.ensures.len

pub returns-then-place-eq0-clause-ordered : goal.returns-then-place-eq0-clause-ordered
returns-then-place-eq0-clause-ordered g c =
    let moved = first_moved_ordered g.met.J.Judge.total g.row.D c.self.inside.items.items c.swap_remove-item.new.self.items c.args.place
    (gone g (goal.at.returns-then-place-eq0-clause-ordered g c).After-swap_remove-item) c.self.invariant c.if-place-eq0.true in
    rw (written_back _ c.sift_to_bottom_with-stop.new.items _ (settled g (goal.at.returns-then-place-eq0-clause-ordered g c).After-sift_to_bottom_with-stop))
    (c.sift_to_bottom_with-stop.ensures.ordered (rw c.as_mut_slice-rest.ensures.value moved))

pub invariant_of-self-then-place-eq0 : goal.invariant_of-self-then-place-eq0
invariant_of-self-then-place-eq0 g c = returns-then-place-eq0-clause-ordered g c

pub returns-then-place-eq0-clause-path : goal.returns-then-place-eq0-clause-path
returns-then-place-eq0-clause-path g c =
    let stop = c.sift_to_bottom_with-stop.result in
    let new = c.sift_to_bottom_with-stop.new.items in
    let old = swap_remove c.self.inside.items.items c.args.place c.swap_remove-item.result in
    let way : GoesUp g.row.D stop 0 new old = subst (λ (xs : List g.row.T.Denot). GoesUp g.row.D stop 0 new xs) (c.as_mut_slice-rest.ensures.value ∙ c.swap_remove-item.ensures.items) c.sift_to_bottom_with-stop.ensures.path in
    rw (← c.self.view_is, written_back _ new _ (settled g (goal.at.returns-then-place-eq0-clause-path g c).After-sift_to_bottom_with-stop))
    (inr (subst (λ (k : ℕ). GoesUp g.row.D stop k new old) (sym c.if-place-eq0.true) way))

pub returns-then-place-eq0-clause-bag : goal.returns-then-place-eq0-clause-bag
returns-then-place-eq0-clause-bag g c =
    let item = c.swap_remove-item.result in
    rw (written_back _ c.sift_to_bottom_with-stop.new.items _ (settled g (goal.at.returns-then-place-eq0-clause-bag g c).After-sift_to_bottom_with-stop))
    (IsPermutation-trans _ _ (item ∷ c.sift_to_bottom_with-stop.new.items) (rest g (goal.at.returns-then-place-eq0-clause-bag g c).After-swap_remove-item)
    (IsPermutation-cons item _ _ (rw c.as_mut_slice-rest.ensures.value at c.sift_to_bottom_with-stop.ensures.bag)))

-- a fix at the first place takes as many as sifting down from there
fix_bound-first : (D n : ℕ) → fix_bound D n 0 ≡ sink_bound D n
fix_bound-first D n = rw depth-zero (whole (arity D) (depth D (n - 1))) where
  whole : (a m : ℕ) → 0 + a * (m - 0) ≡ a * m
  whole a m = let same : m - 0 ≡ m = omega arith in omega (arith, ap (λ k. a * k) same)

pub returns-then-place-eq0-clause-counted : goal.returns-then-place-eq0-clause-counted
returns-then-place-eq0-clause-counted g c =
    let D = g.row.D in
    let n = length c.self.inside.items.items - 1 in
    let long : length c.as_mut_slice-rest.result.now ≡ n = omega (arith, c.as_mut_slice-rest.ensures.len, c.swap_remove-item.ensures.len, c.self.inside.items.ok.0) in
    let same = ap (sink_bound D) long ∙ sym (fix_bound-first D n) ∙ ap (fix_bound D n) (sym c.if-place-eq0.true) in
    rw (← c.self.view_is)
    (subst (λ (b : ℕ). RisesWithin (g.J.Judge.count c.self.inside.judge) (g.J.Judge.count c.sift_to_bottom_with-stop.new.judge) b) same c.sift_to_bottom_with-stop.ensures.counted)

-- as many items are left
all : (g : Over) (c : After-fix_with-stop g) → length c.fix_with-stop.new.items ≡ c.swap_remove-item.new.self.len
all g c = length_permutation _ _ c.fix_with-stop.ensures.bag ∙ c.as_mut_slice-rest.ensures.len

pub returns-clause-ordered : goal.returns-clause-ordered
returns-clause-ordered g c =
    rw (written_back _ c.fix_with-stop.new.items _ (all g (goal.at.returns-clause-ordered g c).After-fix_with-stop))
    (c.fix_with-stop.ensures.ordered (rw c.as_mut_slice-rest.ensures.value
    (moved_ordered g.met.J.Judge.total g.row.D c.self.inside.items.items c.swap_remove-item.new.self.items c.args.place (gone g (goal.at.returns-clause-ordered g c).After-swap_remove-item) c.self.invariant)))

pub invariant_of-self-2 : goal.invariant_of-self-2
invariant_of-self-2 g c = returns-clause-ordered g c

pub returns-clause-item : goal.returns-clause-item
returns-clause-item g c = came g (goal.at.returns-clause-item g c).After-swap_remove-item

pub returns-clause-path : goal.returns-clause-path
returns-clause-path g c =
    let new = c.fix_with-stop.new.items in
    rw (← c.self.view_is, written_back _ new _ (all g (goal.at.returns-clause-path g c).After-fix_with-stop))
    (subst (λ (xs : List g.row.T.Denot). GoesTo g.row.D c.args.place c.fix_with-stop.result xs new) (c.as_mut_slice-rest.ensures.value ∙ c.swap_remove-item.ensures.items) c.fix_with-stop.ensures.path)

pub returns-clause-bag : goal.returns-clause-bag
returns-clause-bag g c =
    let item = c.swap_remove-item.result in
    rw (written_back _ c.fix_with-stop.new.items _ (all g (goal.at.returns-clause-bag g c).After-fix_with-stop))
    (IsPermutation-trans _ _ (item ∷ c.fix_with-stop.new.items) (rest g (goal.at.returns-clause-bag g c).After-swap_remove-item)
    (IsPermutation-cons item _ _ (rw c.as_mut_slice-rest.ensures.value at c.fix_with-stop.ensures.bag)))
