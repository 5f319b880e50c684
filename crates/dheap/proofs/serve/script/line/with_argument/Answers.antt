use Rattle.dheap.proofs.Common.{arith}
use Rattle.std.proofs.lemmas.Grind.{common_steps}
use Rattle.dheap.proofs.serve.script.line.with_argument.Goals as goal

pub returns-in-sorted : goal.returns-in-sorted
returns-in-sorted c = grind (arith, common_steps)
