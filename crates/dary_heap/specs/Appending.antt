-- Which of two heaps receives the items of the other in an append: the longer, or the first if they are as long.
use Rattle.std.specs.Prelude.{ℕ, length, nat_lt, if◌then◌else◌}
use Rattle.dary_heap.specs.Contents.{Contents}

-- the capacity of the one that receives
abbrev pub receiving_capacity : {T : Type 0} → Contents T → Contents T → ℕ
receiving_capacity a b = if nat_lt (length a.items) (length b.items) then b.capacity else a.capacity

-- the capacity of the one whose items move
abbrev pub moving_capacity : {T : Type 0} → Contents T → Contents T → ℕ
moving_capacity a b = if nat_lt (length a.items) (length b.items) then a.capacity else b.capacity
