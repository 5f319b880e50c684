use Rattle.dary_heap_uses.proofs.{Contents, [], refl, subst, nat_cmp, ℕ, ◌∷◌}
use Rattle.dary_heap.specs.Popping.{IsGivenDescending}
use Rattle.dary_heap_uses.proofs.calling.greatest_two.Goals as goal

pub returns-clause-given : goal.returns-clause-given
returns-clause-given g c =
    let two = c.in_ok-first.first ∷ c.in_ok-second.second ∷ [] in
    let given = c.drain_sorted-numbers.ensures.descending.part two c.next-2.new.self
    (c.next.new.self, c.in_ok-first.ensures.steps, (c.next-2.new.self, c.in_ok-second.ensures.steps, refl)) in
    let left = c.next-2.new.self.heap.now.items in
    (left, subst (λ (heap : Contents ℕ). IsGivenDescending nat_cmp heap.items two left) c.drain_sorted-numbers.ensures.heap given)
