use Rattle.dary_heap_uses.proofs.{Contains-cases, Contains-permutation, Greater, IsGreatest, IsPermutation-append_left, IsPermutation-middle, IsPermutation-push_more, IsPermutation-sym}
use Rattle.dary_heap_uses.proofs.{IsPermutation-trans, IsPermutation-uncons, IsSameBag, IsTotalOrder, KeepsGreatest, List, Ordering, RisesWithin, [], arith, came_later, depth-later, depth-parent, inl}
use Rattle.dary_heap_uses.proofs.{inr, length, length-append, length-map, length_permutation, length_push, not_greater-trans, pop_bound, push_bound, refl, reversed_came, reversed_least, reversed_went}
use Rattle.dary_heap_uses.proofs.{sink_bound, subst, suc, sym, values, zero, ℕ, ◌++◌, ◌+◌, ◌<◌, ◌∷◌, ◌≡◌, ◌≢◌, ◌≤◌}
use Rattle.dary_heap_uses.proofs.greatest.greatest.Goals as goal

module _ {X : Type 0} {cmp : X → X → Ordering} (total : IsTotalOrder cmp) (k : ℕ) (items : List X) where
  -- there was room for it
  came_in : (x : X) (old new : List X) → KeepsGreatest cmp k items old → length old < k → IsSameBag (x ∷ old) new → KeepsGreatest cmp k (items ++ x ∷ []) new
  came_in x old new h room bag =
      let whole : length old + length h.left_out ≡ length items = omega (arith, length_permutation items (old ++ h.left_out) h.together, length-append old h.left_out) in
      record {
        left_out = h.left_out;
        together = IsPermutation-push_more items (old ++ h.left_out) (new ++ h.left_out) x h.together (IsPermutation-append_left h.left_out (x ∷ old) new bag);
        as_many = omega (arith, h.as_many, length_permutation (x ∷ old) new bag, length-append items (x ∷ []));
        none_greater = λ a y out in'. absurd (omega (arith, h.as_many, out.1));
      }

  -- of those that were kept and this one, a least was left out
  least_out : (x out : X) (old new : List X) → KeepsGreatest cmp k items old → k ≤ length old → IsSameBag (x ∷ old) (out ∷ new) → IsGreatest (λ a b. cmp b a) (x ∷ old) out →
      KeepsGreatest cmp k (items ++ x ∷ []) new
  least_out x out old new h full bag least =
      let back = IsPermutation-sym (x ∷ old) (out ∷ new) bag in
      record {
        left_out = out ∷ h.left_out;
        together = IsPermutation-push_more items (old ++ h.left_out) (new ++ out ∷ h.left_out) x h.together
            (IsPermutation-trans _ _ _ (IsPermutation-append_left h.left_out (x ∷ old) (out ∷ new) bag) (IsPermutation-sym _ _ (IsPermutation-middle new out h.left_out)));
        as_many = omega (arith, h.as_many, length_permutation (x ∷ old) (out ∷ new) bag, length-append items (x ∷ []));
        none_greater = λ a y gone stays.
            let under : cmp out y ≢ Greater = least.none_above y (came_later out new (x ∷ old) y back stays) in
            elim (Contains-cases out h.left_out a gone) [
              | inl same ↦ subst (λ v. cmp v y ≢ Greater) same under
              | inr before ↦ elim (Contains-cases x old out least.occurs) [
                | inl is ↦ h.none_greater a y before (Contains-permutation new old y (IsPermutation-uncons x new old (subst (λ v. IsSameBag (v ∷ new) (x ∷ old)) (sym is) back)) stays)
                | inr there ↦ not_greater-trans total a out y (h.none_greater a out before there) under
              ]
            ];
      }

-- an exchange with the first of k items costs at most one comparison more than a push onto so many and a pop from them may
within_both : {old new : ℕ} (D k : ℕ) → RisesWithin old new (sink_bound D k + 1) → RisesWithin old new (pop_bound D k + 2) → RisesWithin old new (push_bound D k + pop_bound D k + 1)
within_both D zero sunk tight = record { rises = sunk.rises; within = omega (arith, sunk.within) }
within_both D (suc k) sunk tight = record { rises = tight.rises; within = omega (arith, tight.within, depth-parent D (suc k) (omega arith)) }

-- there was room for one more
pub loop-item-preserved-in-Ok-1 : goal.loop-item-preserved-in-Ok-1
loop-item-preserved-in-Ok-1 g c =
    let before = c.loop-item.invariant in
    let old = c.loop-item.kept.items in
    let room : length old < c.args.k = omega arith in
    let bag = reversed_came _ old _ _ refl c.in-Ok.ensures.bag in
    record {
      greatest = came_in g.met.T.Ord.total c.args.k c.loop-item.yielded c.in-Some.item (values old) _ before.greatest (omega (arith, length-map old (λ r. r.0))) bag;
      few = omega (arith, length_permutation _ _ c.in-Ok.ensures.bag);
      counted = rw (length_push c.loop-item.yielded c.in-Some.item)
          (omega (arith, before.counted, c.in-Ok.ensures.counted.within, depth-later g.row.D (length old) c.args.k (omega arith)));
    }

-- a least one went
pub loop-item-preserved : goal.loop-item-preserved
loop-item-preserved g c =
    let before = c.loop-item.invariant in
    let old = c.loop-item.kept.items in
    let out = c.push_pop.result in
    let full : length old ≡ c.args.k = omega (arith, before.few) in
    let bag = reversed_went _ (record { 0 = c.in-Some.item } ∷ old) c.push_pop.new.self.items out refl c.push_pop.ensures.bag in
    let cost = within_both g.row.D c.args.k (rw full at c.push_pop.ensures.counted) (rw full at c.push_pop.ensures.tight) in
    record {
      greatest = least_out g.met.T.Ord.total c.args.k c.loop-item.yielded c.in-Some.item out.0 (values old) _ before.greatest (omega (arith, length-map old (λ r. r.0))) bag
          (reversed_least (record { 0 = c.in-Some.item } ∷ old) out c.push_pop.ensures.greatest);
      few = omega (arith, length_permutation _ _ c.push_pop.ensures.bag);
      counted = rw (length_push c.loop-item.yielded c.in-Some.item) (omega (arith, before.counted, cost.within));
    }
