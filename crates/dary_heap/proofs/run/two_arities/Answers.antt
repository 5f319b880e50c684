use Rattle.dary_heap.proofs.Common.{CalledAt}
use Rattle.dary_heap.proofs.run.SameReplies.{same_replies}
use Rattle.dary_heap.proofs.run.two_arities.Goals as goal

pub returns : goal.returns
returns g c = same_replies (CalledAt g.P.FnMut) g.met.T.Ord.total
