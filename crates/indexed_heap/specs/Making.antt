-- Heaps that are new.
use Rattle.std.specs.Prelude.{◌≡◌, []}
use Rattle.indexed_heap.specs.Entries.{Indexed}

-- a heap without entries that has taken no memory and compared nothing
pub record IsNew {T : Type 0} (heap : Indexed T) : Type 0 where
  pub entries : heap.entries ≡ []
  pub capacity : heap.capacity ≡ 0
  pub keys : heap.keys ≡ 0
  pub uncounted : heap.comparisons ≡ 0
