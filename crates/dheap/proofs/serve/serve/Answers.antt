use Rattle.dheap.proofs.Common.{sym, ◌∙◌}
use Rattle.dheap.proofs.Scripts.{first_bad}
use Rattle.dheap.proofs.serve.serve.Goals as goal

pub returns-in-Err-clause-bad : goal.returns-in-Err-clause-bad
returns-in-Err-clause-bad g c = λ one. first_bad _ _ (c.in-Err.ensures.bad (sym c.report.ensures ∙ one))
