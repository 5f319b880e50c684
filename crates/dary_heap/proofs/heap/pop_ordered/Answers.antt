use Rattle.dary_heap.proofs.{◌≡◌, ◌↔◌, ◌<◌, List, [], ◌∷◌, length, refl, sym, subst, arith, Option, Some, None, IsSome, IfSome, IfNone, Vec, Global, slice_get, RisesWithin, pop_bound, below_root}
use Rattle.dary_heap.proofs.{popped_is_greatest}
use Rattle.dary_heap.specs.Contents.{contents_of}
use Rattle.dary_heap.proofs.heap.pop_ordered.Goals as goal

first_of : {X : Type 0} (r : Option X) (xs : List X) → (IsSome r ↔ (0 < length xs)) → IfSome r (λ item. slice_get xs 0 ≡ Some item) → r ≡ slice_get xs 0
first_of None [] some is = refl
first_of None (x ∷ xs) some is = let none = some.1 (omega arith) in cc
first_of (Some item) xs some is = sym is

kept : {X V J C : Type 0} (r : Option X) (see : V → J → C) (v w : V) (a b : J) → IfNone r (w ≡ v) → IfNone r (b ≡ a) → IfNone r (see w b ≡ see v a)
kept None see v w a b p q = λ i. see (p i) (q i)
kept (Some x) see v w a b p q = tt

pub returns : goal.returns
returns g c =
    let was = c.args.items.now in let new = c.pop_with.new.items in
    record {
      first = first_of c.pop_with.result was.items (subst (λ n. IsSome c.pop_with.result ↔ (0 < n)) was.ok.0 c.pop_with.ensures.variant) c.pop_with.ensures.first;
      greatest = popped_is_greatest g.met.J.Judge.total g.row.D was.items c.requires c.pop_with.result c.pop_with.ensures.first;
      bag = c.pop_with.ensures.bag;
      len = omega (arith, c.pop_with.ensures.len, was.ok.0, new.ok.0);
      ordered = c.pop_with.ensures.ordered (below_root g.row.D was.items c.requires);
      counted = subst (λ n. RisesWithin (g.J.Judge.count c.args.judge.now) (g.J.Judge.count c.pop_with.new.judge) (pop_bound g.row.D n)) was.ok.0 c.pop_with.ensures.counted;
      capacity = c.pop_with.ensures.capacity;
      unchanged = kept c.pop_with.result (λ (v : Vec g.row.T.Denot Global) (j : g.row.J.Denot). contents_of v (g.J.Judge.count j)) _ _ _ _ c.pop_with.ensures.unchanged c.pop_with.ensures.uncounted;
    }
