-- What a caller sees of a heap.
use Rattle.std.specs.Prelude.{ℕ, List, Vec, vec_capacity}
use Rattle.std.specs.declared.alloc.Global.{Global}

-- the items in the order in which they are stored, how many there is room for, and how many comparisons were made so far
pub record Contents (T : Type 0) : Type 0 where
  pub items : List T
  pub capacity : ℕ
  pub comparisons : ℕ

-- those of a heap with this vector, whose judge has made so many comparisons
abbrev pub contents_of : {T : Type 0} → Vec T Global → ℕ → Contents T
contents_of v made = record { items = v.items; capacity = vec_capacity v; comparisons = made }
