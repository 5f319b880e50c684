use Rattle.dheap.proofs.Common.{Some, [], ◌∷◌, FitsSigned, sym, subst, ◌∙◌, w64, to_z-of_z, Decides-eqb}
use Rattle.std.proofs.lemmas.Slice.Eq.{strip_prefix_is}
use Rattle.dheap.proofs.Plain.{minus_number}
use Rattle.dheap.proofs.serve.script.line.plain_number.Goals as goal

pub returns-in-Some : goal.returns-in-Some
returns-in-Some c =
    let (word, ends, digits, value) = c.in_ok-size.ensures in
    let space = strip_prefix_is Decides-eqb c.args.script.now (32 ∷ []) (Some c.in_ok-word.word) c.in_ok-word.ensures.cases in
    let minus = strip_prefix_is Decides-eqb c.in_ok-word.word.now (45 ∷ []) (Some c.in-Some.digits) c.in-Some.ensures.cases in
    let some = c.in_ok-checked_sub_unsigned.ensures in
    minus_number c.args.script.now _ c.in-Some.digits.now word c.in_ok-size.rest.now c.in_ok-size.size _ space minus ends digits value
    (some.0, to_z-of_z w64 _ (subst (FitsSigned w64) (sym some.1) some.0) ∙ some.1)
