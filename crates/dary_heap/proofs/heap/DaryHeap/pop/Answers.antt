use Rattle.dary_heap.proofs.{◌≡◌, ◌↔◌, ◌<◌, List, [], ◌∷◌, length, refl, arith, Option, IsSome, slice_get, popped_bound}
use Rattle.dary_heap.specs.Contents.{contents_of}
use Rattle.dary_heap.specs.Popping.{IsPop}
use Rattle.dary_heap.proofs.heap.DaryHeap.pop.Goals as goal

some_first : {X : Type 0} (r : Option X) (xs : List X) → r ≡ slice_get xs 0 → IsSome r ↔ (0 < length xs)
some_first r [] is = rw is (λ some. cc, λ some. absurd (omega arith))
some_first r (x ∷ xs) is = rw is (λ some. omega arith, λ some. refl)

pub returns-clause-variant : goal.returns-clause-variant
returns-clause-variant g c = some_first _ _ (rw (← c.self.view_is) c.pop_ordered.ensures.first)

pub returns-clause-below_top : goal.returns-clause-below_top
returns-clause-below_top g c =
    let popped : IsPop g.J.Judge.order g.row.D c.args.self.now c.pop_ordered.result (contents_of c.pop_ordered.new.items (g.J.Judge.count c.pop_ordered.new.judge)) =
    rw (← c.self.view_is) c.pop_ordered.ensures in
    popped_bound g.met.J.Judge.total _ _ c.pop_ordered.result popped.greatest popped.bag
