use Rattle.dary_heap.proofs.Common.{sym, get_or_from_slice_get}
use Rattle.dary_heap.proofs.peek_mut.methods.PeekMut+T+D+J.pop.Goals as goal

pub unwrap-item-requires : goal.unwrap-item-requires
unwrap-item-requires g c = c.pop_with.ensures.variant.1 (rw c.args.this.items.ok.0 c.args.this.on_loan.some)

pub returns-clause-first : goal.returns-clause-first
returns-clause-first g c = rw c.unwrap-item.ensures at c.pop_with.ensures.first

pub returns-clause-value : goal.returns-clause-value
returns-clause-value g c = sym (get_or_from_slice_get _ 0 _ _ (rw c.unwrap-item.ensures at c.pop_with.ensures.first))
