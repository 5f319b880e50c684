-- What the iterators give in a row.
use Rattle.dary_heap.proofs.Common.{ap, length}
use Rattle.std.proofs.iter.runs.Sources.{from_front, from_back}
use Rattle.std.specs.Iterator.{YieldsFirstBy, YieldsLastBy}
use Rattle.indexed_heap.specs.Iterating.{ShowsInOrder, ShowsInReverse, shown}

module _ {T : Type 0} where
  pub shows_in_order : ShowsInOrder T
  shows_in_order p s = from_front (YieldsFirstBy (shown {T = T}) (λ rest. rest)) shown (λ rest. rest) (λ s t h. ap length h.0) (λ s x t h. h) p s

  pub shows_in_reverse : ShowsInReverse T
  shows_in_reverse p s = from_back (YieldsLastBy (shown {T = T}) (λ rest. rest)) shown (λ rest. rest) (λ s t h. ap length h.0) (λ s x t h. h) p s
