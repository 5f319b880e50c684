use Rattle.dary_heap.proofs.{◌∷◌, ◌++◌, [], refl, arith, length_permutation, IsPermutation-to_front, IsPermutation-trans, same_state, IsSubBag-same}
use Rattle.dary_heap.proofs.run.Serving.{serves_same}
use Rattle.dary_heap.proofs.run.push.Goals as goal

pub returns-in-Ok : goal.returns-in-Ok
returns-in-Ok g c =
    let e = c.in-Ok.ensures in
    record {
      step = (e.bag, e.first);
      charged = e.counted;
      served = λ some. refl;
      sure = omega (arith, length_permutation _ _ e.bag, e.capacity);
      ordered = e.ordered;
      among = IsSubBag-same _ (c.args.heap.now.items ++ c.args.item ∷ []) (IsPermutation-trans _ _ _ (IsPermutation-to_front _ _) e.bag);
      kept = (e.capacity, λ fits. e.kept (omega (arith, fits, length_permutation _ _ e.bag)));
      full = tt;
    }

pub returns-in-Err : goal.returns-in-Err
returns-in-Err g c = let e = c.in-Err.ensures in serves_same e.unchanged e.ordered (e.returned, same_state _ _ refl) (λ some. absurd (omega (arith, e.full))) (omega arith) refl e.full
