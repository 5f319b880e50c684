-- What the iterators give in a row.
use Rattle.dary_heap.proofs.Common.{ap, length}
use Rattle.std.proofs.iter.runs.Sources.{from_front, from_back}
use Rattle.std.specs.Iterator.{YieldsFirstBy, YieldsLastBy}
use Rattle.named_heap.specs.Iterating.{ShowsInOrder, ShowsInReverse, shown}

module _ {K T : Type 0} where
  pub shows_in_order : ShowsInOrder K T
  shows_in_order p s = from_front (YieldsFirstBy (shown {K = K} {T = T}) (λ rest. rest)) shown (λ rest. rest) (λ s t h. ap length h.0) (λ s x t h. h) p s

  pub shows_in_reverse : ShowsInReverse K T
  shows_in_reverse p s = from_back (YieldsLastBy (shown {K = K} {T = T}) (λ rest. rest)) shown (λ rest. rest) (λ s t h. ap length h.0) (λ s x t h. h) p s
