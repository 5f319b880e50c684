-- What iterators give in a row, if their remaining items are seen as a list.
use Rattle.dary_heap.proofs.Common.{List, length, ap, YieldsFirst, YieldsLast, YieldsFirstRef, YieldsLastRef}
use Rattle.std.specs.Iterator.Runs.{YieldsInOrder, YieldsInReverse, YieldsRefsInOrder, YieldsRefsInReverse}
use Rattle.std.proofs.iter.runs.Sources.{from_front, from_back, as_is, as_is_back}

module _ {S T : Type 0} (rest : S → List T) where
  pub runs : YieldsInOrder (YieldsFirst rest) rest
  runs p s = as_is p (rest p.from) (from_front (YieldsFirst rest) (λ x. x) rest (λ s t h. ap length h.0) (λ s x t h. h) p s)

  pub runs_back : YieldsInReverse (YieldsLast rest) rest
  runs_back p s = as_is_back p (rest p.from) (from_back (YieldsLast rest) (λ x. x) rest (λ s t h. ap length h.0) (λ s x t h. h) p s)

module _ {T : Type 0} where
  pub runs_refs : YieldsRefsInOrder (YieldsFirstRef {A = T} (λ rest. rest)) (λ rest. rest)
  runs_refs p s = from_front (YieldsFirstRef {A = T} (λ rest. rest)) (λ x. x.now) (λ rest. rest) (λ s t h. ap length h.0) (λ s x t h. h) p s

  pub runs_refs_back : YieldsRefsInReverse (YieldsLastRef {A = T} (λ rest. rest)) (λ rest. rest)
  runs_refs_back p s = from_back (YieldsLastRef {A = T} (λ rest. rest)) (λ x. x.now) (λ rest. rest) (λ s t h. ap length h.0) (λ s x t h. h) p s
