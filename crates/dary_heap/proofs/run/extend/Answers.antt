use Rattle.dary_heap.proofs.Common.{length, ◌∷◌, [], ◌++◌, sym, ◌∙◌, ap, arith, append-nil, append_assoc, map-id}
use Rattle.core.proofs.iter.Yields.{gives_left}
use Rattle.std.proofs.IntoIterSteps.{All-taken, taken, takes}
use Rattle.dary_heap.proofs.run.Serving.{came_in}
use Rattle.dary_heap.proofs.run.extend.Goals as goal

pub returns-in-Ok : goal.returns-in-Ok
returns-in-Ok g c =
    let k = c.in-Ok.ensures.ran in
    came_in g.met.T.Ord.total _ _ _ _ [] _ (sym (append-nil _)) (rw (All-taken k.0 k.1 k.4 ∙ k.2.0) at k.3) (λ joined. joined) tt

pub returns-in-Err : goal.returns-in-Err
returns-in-Err g c =
    let k = c.in-Err.ensures.refused in
    let left = gives_left takes (λ x. x) (k.came ++ k.refused.refused ∷ []) k.from.rest.items k.from k.refused.left (taken k.from) k.refused.gave in
    let split = sym k.begins.0 ∙ left.1 ∙ ap (λ xs. xs ++ left.0) (map-id _) ∙ append_assoc k.came (k.refused.refused ∷ []) left.0 in
    came_in g.met.T.Ord.total _ _ _ k.came _ _ split (rw map-id at k.extended) (λ joined. (k.came, k.refused.refused ∷ left.0, split, omega arith, joined))
    (omega (arith, k.refused.full, k.extended.len, ap length (map-id k.came)))
