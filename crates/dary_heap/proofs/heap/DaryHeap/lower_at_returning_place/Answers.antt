use Rattle.dary_heap.proofs.{◌≡◌, ◌≢◌, ℕ, ◌-◌, ◌*◌, ◌<◌, ◌≤◌, List, ◌∷◌, ◌++◌, []}
use Rattle.dary_heap.proofs.{length, set, slice_get, slice_get-get_or, slice_get_within, get_or_from_slice_get, Some, sym, ap, ◌∙◌, arith, inr}
use Rattle.dary_heap.proofs.{IsPermutation, IsPermutation-sym, IsPermutation-to_front, IsPermutation-trans, IsTotalOrder, Ordering, IsAtMost}
use Rattle.dary_heap.proofs.{IsHeapOrdered, Greater, is_le, arity, depth, parent, parent-below}
use Rattle.dary_heap.proofs.{strictly_less, not_greater-trans, slice_get-set_other, slice_get-set_same, length_permutation, length-set}
use Rattle.dary_heap.proofs.Callers.{overwritten}
use Rattle.dary_heap.proofs.sift.{GoesDownBy-back, GoesDownBy-within, sift_down_cost-depth, sinks, taken_first, whole_of, written_back}
use Rattle.dary_heap.specs.sift.Sifting.{sift_down_cost}
use Rattle.std.proofs.Math.Nat.{mul-sub}
use Rattle.dary_heap.specs.sift.Moving.{SiftsDown}
use Rattle.dary_heap.proofs.heap.DaryHeap.lower_at_returning_place.Goals.{After-sift_down-stop}
use Rattle.dary_heap.proofs.heap.DaryHeap.lower_at_returning_place.Given.{Over}
use Rattle.dary_heap.proofs.heap.DaryHeap.lower_at_returning_place.Goals as goal

-- an item that isn't greater than the one that was there doesn't exceed its parent's
stays_under : {X : Type 0} {cmp : X → X → Ordering} (total : IsTotalOrder cmp) (D at : ℕ) (xs : List X) (old new : X) → at < length xs → slice_get xs at ≡ Some old → cmp new old ≢ Greater →
    IsHeapOrdered cmp D xs →
    0 < at → IsAtMost cmp (slice_get (set xs at new) at) (slice_get (set xs at new) (parent D at))
stays_under {cmp = cmp} total D at xs old new inside was less h up = record {
  not_greater = λ x y x_at y_at e.
      let over : parent D at < at = parent-below D at up in
      let apart : parent D at ≢ at = λ is. omega (arith, over, is) in
      let here = slice_get-set_same xs at new inside in
      let is : x ≡ new = cc in
      let held : slice_get xs (parent D at) ≡ Some y = sym (slice_get-set_other xs at (parent D at) new apart) ∙ y_at in
      not_greater-trans total new old y less ((h.below_parent at up).not_greater old y was held) (ap (λ v. cmp v y) (sym is) ∙ e);
}

few : (D n place : ℕ) → place < n → sift_down_cost D (n - 1) place ≤ arity D * (depth D (n - 1) - depth D place)
few D n place within = omega (arith, sift_down_cost-depth D (n - 1) place (omega (arith, within)), mul-sub (arity D) (depth D (n - 1)) (depth D place))

-- the slice before it is sifted
is : (g : Over) (c : After-sift_down-stop g) → c.as_mut_slice.result.now ≡ set c.self.inside.items.items c.args.place c.args.item
is g c = c.as_mut_slice.ensures.value ∙ ap (set c.self.inside.items.items c.args.place) c.replace-old.ensures.after

-- the item that was there
was : (g : Over) (c : After-sift_down-stop g) → slice_get c.self.inside.items.items c.args.place ≡ Some c.replace-old.result
was g c =
    slice_get-get_or c.self.inside.items.items c.args.place c.index_mut.result.now (rw (← c.self.view_is) at c.requires) ∙ ap Some (sym c.index_mut.ensures.value ∙ sym c.replace-old.ensures.value)

-- what the judge said of it
said : (g : Over) (c : After-sift_down-stop g) → c.at_most.result ≡ is_le (g.J.Judge.order c.replace-old.result c.args.item)
said g c =
    c.at_most.ensures.answer ∙ ap (λ held. is_le (g.J.Judge.order held c.args.item))
    (c.index.ensures ∙ get_or_from_slice_get c.self.inside.items.items c.args.place c.replace-old.result c.index.result.now (was g c))

-- the new one goes down
sifted : (g : Over) (c : After-sift_down-stop g) → SiftsDown g.J.Judge.order g.row.D c.args.place c.sift_down-stop.result (set c.self.inside.items.items c.args.place c.args.item)
    c.sift_down-stop.new.items
    (g.J.Judge.count c.at_most.new.self) (g.J.Judge.count c.sift_down-stop.new.judge)
sifted g c = rw (is g c) at c.sift_down-stop.ensures

ordered : (g : Over) (c : After-sift_down-stop g) → IsHeapOrdered g.J.Judge.order g.row.D c.sift_down-stop.new.items
ordered g c =
    let total = g.met.J.Judge.total in
    let xs = c.self.inside.items.items in let at = c.args.place in let old = c.replace-old.result in let ys = set xs at c.args.item in
    let less = strictly_less total old c.args.item (sym (said g c) ∙ c.if-at_most.false) in
    let under : g.J.Judge.order c.args.item old ≢ Greater = λ e. (let no = sym less ∙ e in cc) in
    let down = sifted g c in
    whole_of g.row.D ys c.sift_down-stop.new.items down.permutation
    (down.ordered 0 (omega arith) (sinks g.row.D at ys (stays_under total g.row.D at xs old c.args.item (slice_get_within xs at old (was g c)) (was g c) under c.self.invariant)
    (overwritten total g.row.D at xs c.args.item c.self.invariant)))

pub invariant_of-self-2 : goal.invariant_of-self-2
invariant_of-self-2 g c =
    rw (written_back _ c.sift_down-stop.new.items _ (c.sift_down-stop.auto.items ∙ c.as_mut_slice.ensures.len)) (ordered g (goal.at.invariant_of-self-2 g c).After-sift_down-stop)

pub returns-clause-ordered : goal.returns-clause-ordered
returns-clause-ordered g c = invariant_of-self-2 g c

pub returns-clause-item : goal.returns-clause-item
returns-clause-item g c = rw (← c.self.view_is) (was g (goal.at.returns-clause-item g c).After-sift_down-stop)

inside : (g : Over) (c : After-sift_down-stop g) → c.args.place < length (set c.self.inside.items.items c.args.place c.args.item)
inside g c =
    let xs = c.self.inside.items.items in
    omega (arith, slice_get_within xs c.args.place c.replace-old.result (was g c), length-set xs c.args.place c.args.item)

pub returns-clause-path : goal.returns-clause-path
returns-clause-path g c =
    let s = (goal.at.returns-clause-path g c).After-sift_down-stop in
    let way = (sifted g s).way in
    rw (← c.self.view_is, written_back _ c.sift_down-stop.new.items _ (c.sift_down-stop.auto.items ∙ c.as_mut_slice.ensures.len))
    (inr (GoesDownBy-back g.J.Judge.order g.row.D way.0 c.args.place c.sift_down-stop.result (set c.self.inside.items.items c.args.place c.args.item) c.sift_down-stop.new.items (inside g s) way.1))

pub returns-clause-within : goal.returns-clause-within
returns-clause-within g c =
    let s = (goal.at.returns-clause-within g c).After-sift_down-stop in
    let way = (sifted g s).way in
    let ys = set c.self.inside.items.items c.args.place c.args.item in
    rw (written_back _ c.sift_down-stop.new.items _ (c.sift_down-stop.auto.items ∙ c.as_mut_slice.ensures.len)) (omega (
      arith,
      GoesDownBy-within g.J.Judge.order g.row.D way.0 c.args.place c.sift_down-stop.result ys c.sift_down-stop.new.items (inside g s) way.1,
      length_permutation ys c.sift_down-stop.new.items (sifted g s).permutation,
    ))

pub returns-clause-bag : goal.returns-clause-bag
returns-clause-bag g c =
    let s = (goal.at.returns-clause-bag g c).After-sift_down-stop in
    let xs = c.self.inside.items.items in
    let came : IsPermutation (c.args.item ∷ xs) (xs ++ c.args.item ∷ []) = IsPermutation-sym _ _ (IsPermutation-to_front xs c.args.item) in
    rw (← c.self.view_is, written_back _ c.sift_down-stop.new.items _ (c.sift_down-stop.auto.items ∙ c.as_mut_slice.ensures.len))
    (IsPermutation-trans _ _ _ came (taken_first xs c.sift_down-stop.new.items c.args.place c.args.item c.replace-old.result (was g s) (sifted g s).permutation))

pub returns-clause-counted : goal.returns-clause-counted
returns-clause-counted g c =
    let s = (goal.at.returns-clause-counted g c).After-sift_down-stop in
    let xs = c.self.inside.items.items in let n = length xs in
    let counted = (sifted g s).counted in
    let long : length (set xs c.args.place c.args.item) ≡ n = length-set xs c.args.place c.args.item in
    let cost : sift_down_cost g.row.D (length (set xs c.args.place c.args.item) - 1) c.args.place ≡ sift_down_cost g.row.D (n - 1) c.args.place = ap (λ (k : ℕ). sift_down_cost g.row.D
    (k - 1) c.args.place) long in
    let small = few g.row.D n c.args.place (slice_get_within xs c.args.place c.replace-old.result (was g s)) in
    rw (← c.self.view_is) (record { rises = omega (arith, c.at_most.ensures.counted, counted.rises); within = omega (arith, c.at_most.ensures.counted, counted.within, cost, small) })
