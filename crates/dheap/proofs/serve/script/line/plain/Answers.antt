use Rattle.dheap.proofs.Common.{◌≡◌, rules, codes, FitsSigned, sym, subst, ◌∙◌, w64, to_z-of_z}
use Rattle.dheap.proofs.Plain.{script_begins, four, push_line, pop_line, len_line, test_line}
use Rattle.dheap.proofs.serve.script.line.plain.Goals as goal

pub returns-in-112 : goal.returns-in-112
returns-in-112 c =
    let name : c.in_ok-name.name.now ≡ codes "pop\n" = search (rules, four) in
    pop_line c.args.script.now _ (script_begins c.args.script.now _ _ _ c.in_ok-name.ensures.cases name)

pub returns-in-108 : goal.returns-in-108
returns-in-108 c =
    let name : c.in_ok-name.name.now ≡ codes "len\n" = search (rules, four) in
    len_line c.args.script.now _ (script_begins c.args.script.now _ _ _ c.in_ok-name.ensures.cases name)

pub returns-in-push : goal.returns-in-push
returns-in-push c =
    let name : c.in_ok-name.name.now ≡ codes "push" = search (rules, four) in
    let (word, ends, is, value) = c.in_ok-number.ensures in
    push_line c.args.script.now _ word c.in_ok-number.rest.now _ ends is (to_z-of_z w64 _ (subst (FitsSigned w64) (sym value) is.1) ∙ value)
    (script_begins c.args.script.now _ _ _ c.in_ok-name.ensures.cases name)

pub returns-in-test : goal.returns-in-test
returns-in-test c =
    let name : c.in_ok-name.name.now ≡ codes "test" = search (rules, four) in
    let (word, ends, is, value) = c.in_ok-number.ensures in
    test_line c.args.script.now _ word c.in_ok-number.rest.now _ ends is (to_z-of_z w64 _ (subst (FitsSigned w64) (sym value) is.1) ∙ value)
    (script_begins c.args.script.now _ _ _ c.in_ok-name.ensures.cases name)
