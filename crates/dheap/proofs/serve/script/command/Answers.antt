use Rattle.dheap.proofs.Common.{rules, refl, sym, subst, CarryOutLine}
use Rattle.dheap.proofs.serve.script.command.Goals as goal

pub returns-in-Test : goal.returns-in-Test
returns-in-Test g c = subst (CarryOutLine _ _) (sym c.in-Test.is) (_, subst (λ n. goal.F-post g c.args.at_least.now n c.at_least.result) (search rules) c.at_least.ensures, refl)

pub returns-in-PopIf : goal.returns-in-PopIf
returns-in-PopIf g c = subst (CarryOutLine _ _) (sym c.in-PopIf.is) (_, subst (λ n. goal.F-post g c.args.at_least.now n c.at_least-in-PopIf.result) (search rules) c.at_least-in-PopIf.ensures, refl)

pub returns-in-Keep : goal.returns-in-Keep
returns-in-Keep g c = subst (CarryOutLine _ _) (sym c.in-Keep.is) (_, subst (λ n. goal.F-post g c.args.at_least.now n c.at_least-in-Keep.result) (search rules) c.at_least-in-Keep.ensures, refl)
