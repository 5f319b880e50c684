-- The k greatest of a stream's items.
use Rattle.std.specs.Prelude.{◌≡◌, ◌≢◌, ℕ, min, List, ◌++◌, length, map, Contains}
use Rattle.std.specs.declared.cmp.Ordering.{Ordering}
use Rattle.std.specs.declared.cmp.Ordering.TheVariants.{Greater}
use Rattle.std.specs.declared.cmp.Reverse.{Reverse}
use Rattle.dary_heap.specs.Bag.{IsSameBag}

-- what the items in Reverse are
abbrev pub values : {T : Type 0} → List (Reverse T) → List T
values items = map (λ r. r.0) items

-- of the items k were kept, or all if there are fewer, and the others left out; nothing left out is strictly greater than anything kept
pub record KeepsGreatest {T : Type 0} (cmp : T → T → Ordering) (k : ℕ) (items kept : List T) : Type 0 where
  pub left_out : List T
  pub together : IsSameBag items (kept ++ left_out)
  pub as_many : length kept ≡ min k (length items)
  pub none_greater : (x y : T) → Contains left_out x → Contains kept y → cmp x y ≢ Greater
