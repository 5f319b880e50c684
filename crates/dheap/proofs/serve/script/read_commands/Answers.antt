use Rattle.dheap.proofs.Common.{◌==◌, [], ◌∷◌, ◌++◌, refl, sym, ap, subst, ◌∙◌, arith, append_assoc, append-nil, length, map, option_to_list, length-append, map-append, Say, lines_left}
use Rattle.dary_heap.specs.Reading as read
use Rattle.dheap.proofs.Scripts.{CarryOut-more, Say-append, few_lines}
use Rattle.dheap.proofs.serve.script.read_commands.Goals.{in-Some-command+in_ok-push, in_default-command, else-loop-number-test, then-loop-number-test+in_default}
use Rattle.dheap.proofs.serve.script.read_commands.Goals as goal

pub loop-number-init : goal.loop-number-init
loop-number-init g c = (c.requires, ([], [], refl, refl, tt, ap (λ xs. read.commands xs) c.new-commands.ensures.items))

pub loop-number-preserved : goal.loop-number-preserved
loop-number-preserved g c =
    let (callable, (before, lines, all, number, say, carry)) = c.loop-number.invariant in
    let (text, first, says) = c.in-Some-read_line.ensures.said in
    let line = c.in-Some-read_line.line in
    let made = read.commands c.loop-number.commands.items in (
      callable,
      (
        before ++ text ∷ [],
        lines ++ line ∷ [],
        all ∙ ap (λ r. before ++ lines_left r) c.in-Some.is ∙ ap (λ r. before ++ r) first ∙ sym (append_assoc before (text ∷ []) (lines_left c.in-Some-read_line.after)),
        omega (arith, number, length-append before (text ∷ [])),
        Say-append before (text ∷ []) lines (line ∷ []) say (says, tt),
        CarryOut-more _ _ _ _ _ _ carry c.command.ensures (elim c.match-command.branch [
          | in-Some-command+in_ok-push w ↦ ap (λ v. read.commands v.items) w.commands-is ∙ ap (λ v. read.commands v) w.in_ok-push.ensures.items
              ∙ map-append read.command c.loop-number.commands.items (w.in-Some-command.command ∷ [])
              ∙ ap (λ o. made ++ map read.command (option_to_list o)) (sym w.in-Some-command.is)
          | in_default-command w ↦ ap (λ v. read.commands v.items) w.commands-is ∙ sym (append-nil made) ∙ ap (λ o. made ++ map read.command (option_to_list o)) (sym w.in_default-command.is)
        ]),
      ),
    )

pub returns-clause-said : goal.returns-clause-said
returns-clause-said g c =
    let (before, lines, all, number, say, carry) = c.loop-number.invariant.1 in
    elim c.loop-number-test.branch [
      | else-loop-number-test w ↦
          absurd (omega (arith, number, w.loop-number-test.false, few_lines (λ b. b == 10) c.args.script.now, ap (λ l. length l) all, length-append before (lines_left c.loop-number.rest)))
      | then-loop-number-test+in_default w ↦ (lines, subst (λ ls. Say ls lines) (sym (all ∙ ap (λ r. before ++ lines_left r) w.in_default.is ∙ append-nil before)) say, carry)
    ]
