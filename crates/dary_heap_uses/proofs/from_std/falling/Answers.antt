use Rattle.std.proofs.lemmas.Iterator.{IsCollectResult}
use Rattle.dary_heap.proofs.Popping.{pops_give}
use Rattle.dary_heap_uses.proofs.{Contents, Err, Falls, IfOk, IsDescending, IsPop, IsSameBag, List, Ok, Result, Vec, descending_at, nat_cmp, nat_cmp_total, nat_le_from_cmp, ℕ}
use Rattle.dary_heap_uses.proofs.from_std.falling.Goals as goal

-- what holds of all prices in descending order holds of the list that is collected
collected : {Z E : Type 0} (P : List ℕ → Type 0) (heap : Contents ℕ) (r : Result (Vec ℕ Z) E) → IsCollectResult (IsPop nat_cmp 2) heap r →
    ((xs : List ℕ) → IsSameBag heap.items xs × IsDescending nat_cmp xs → P xs) → IfOk r (λ list. P list.items)
collected P heap (Ok list) ran f = let end = ran.1.2 tt in rw ran.2.0 (f ran.0 ((pops_give nat_cmp 2 heap).all ran.0 (end.0, (ran.1.0, ran.1.1, end.1))))
collected P heap (Err e) ran f = tt

pub returns-clause-bag : goal.returns-clause-bag
returns-clause-bag c =
    rw (← c.into_iter_sorted.ensures.heap) (collected (IsSameBag c.into_iter_sorted.result.items) _ c.collect.result c.collect.ensures.ran (λ xs all. all.0))

pub returns-clause-falls : goal.returns-clause-falls
returns-clause-falls c = collected Falls c.into_iter_sorted.result c.collect.result c.collect.ensures.ran
    (λ xs all i j x y before at_i at_j. nat_le_from_cmp y x (descending_at nat_cmp_total xs all.1 i j x y before at_i at_j))
