use Rattle.dary_heap.proofs.Common.{◌∙◌}
use Rattle.dary_heap.proofs.iter.Iterating.{runs, runs_back}
use Rattle.dary_heap.proofs.iter.owned.DaryHeapIntoIterator.into_iter.Goals as goal

pub returns : goal.returns
returns g c = record { into_iter_gives = (c.of.ensures.items ∙ c.into_vec-items.ensures.items, c.of.ensures.fits, runs (λ rest. rest), runs_back (λ rest. rest)) }
