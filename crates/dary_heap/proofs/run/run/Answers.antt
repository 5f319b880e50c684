use Rattle.dary_heap.proofs.{◌≡◌, [], ◌∷◌, ◌++◌, length, map, All, sym, ap, ◌∙◌, subst, arith, inl, inr, append_assoc, append-nil, length-append, map-append, nil_from_length}
use Rattle.dary_heap.proofs.{into_iter_items, MayCall, items_in, ordered_state, IsSubBag-front}
use Rattle.dary_heap.proofs.Callable.{all_callable}
use Rattle.dary_heap.specs.Reading as read
use Rattle.dary_heap.proofs.run.Runs.{callable_one, came_with, Runs-begins, Runs-more}
use Rattle.dary_heap.proofs.run.run.Goals as goal

pub loop-command-init : goal.loop-command-init
loop-command-init g c =
    let gives = c.into_iter-command-iterator.ensures.into_iter_gives in
    record {
      split = sym gives.0;
      space = omega (arith, ap length c.in-Ok.ensures.items, gives.1, c.len-2.ensures, c.in-Ok.ensures.capacity);
      runs = rw c.in-Ok.ensures.items (Runs-begins c.args.heap.now (ordered_state g.met.T.Ord.total g.row.D c.args.heap.now.items c.len.ensures.ordered));
      among = IsSubBag-front c.args.heap.now.items [];
      ordered = c.len.ensures.ordered;
    }

pub carry_out-requires : goal.carry_out-requires
carry_out-requires g c =
    let steps = c.in-Some.ensures.steps in
    let all = c.args.commands.items in
    let may : All (MayCall g.P.FnMut (c.args.heap.now.items ++ items_in (read.commands all))) (read.commands all) = elim c.requires [
      | inl always ↦ all_callable g.P.FnMut _ _ always
      | inr each ↦ each
    ] in
    let is : all ≡ c.loop-command.yielded ++ (c.in-Some.command ∷ into_iter_items c.next.new.self) = c.loop-command.invariant.split ∙ ap (λ xs. c.loop-command.yielded ++ xs) steps.0 in
    let seen = ap (map read.command) is ∙ map-append read.command c.loop-command.yielded (c.in-Some.command ∷ into_iter_items c.next.new.self) in (
      assumption,
      (
        assumption,
        (
          assumption,
          callable_one g.P.FnMut c.args.heap.now.items c.loop-command.heap.items (read.commands c.loop-command.yielded) (read.command c.in-Some.command)
              (read.commands (into_iter_items c.next.new.self)) c.loop-command.invariant.among (subst (λ cs. All (MayCall g.P.FnMut (c.args.heap.now.items ++ items_in cs)) cs) seen may),
        ),
      ),
    )

pub loop-command-preserved : goal.loop-command-preserved
loop-command-preserved g c =
    let steps = c.in-Some.ensures.steps in
    let before = c.loop-command.invariant in
    let all = c.args.commands.items in
    let yielded = c.loop-command.yielded in
    let command = c.in-Some.command in
    let rest = into_iter_items c.next.new.self in
    let is : all ≡ yielded ++ (command ∷ rest) = before.split ∙ ap (λ xs. yielded ++ xs) steps.0 in
    let replies = c.loop-command.replies.items in
    record {
      split = is ∙ sym (append_assoc yielded (command ∷ []) rest);
      space = omega (arith, ap length c.push_reserved.ensures.items, length-append replies (c.carry_out.result ∷ []), c.push_reserved.ensures.capacity, steps.1, before.space);
      runs = rw (c.push_reserved.ensures.items, map-append read.command yielded (command ∷ []), map-append read.reply replies (c.carry_out.result ∷ [])) (Runs-more before.runs c.carry_out.ensures);
      among = rw (map-append read.command yielded (command ∷ []))
          (came_with c.args.heap.now.items c.loop-command.heap.items _ (read.commands yielded) (read.command command) before.among c.carry_out.ensures.among);
      ordered = c.carry_out.ensures.ordered;
    }

pub returns-clause-runs : goal.returns-clause-runs
returns-clause-runs g c =
    let before = c.loop-command.invariant in
    let rest : into_iter_items c.loop-command.command-iterator ≡ [] = nil_from_length _ (sym c.loop-command.command-iterator.rest.ok.0 ∙ c.in-None.ensures.steps.0) in
    let all : c.args.commands.items ≡ c.loop-command.yielded = before.split ∙ ap (λ xs. c.loop-command.yielded ++ xs) rest ∙ append-nil c.loop-command.yielded in
    rw all before.runs

pub returns-in_default-clause-ordered : goal.returns-in_default-clause-ordered
returns-in_default-clause-ordered g c = c.len.ensures.ordered
