-- The orders by which items are compared that have no order of their own.
use Rattle.std.specs.Prelude.{ℕ, ◌-◌, ◌^◌, ℤ, pos, negsuc, nat_lt, if◌then◌else◌}
use Rattle.std.specs.Cmp.{IsTotalOrder, int_cmp_total, nat_cmp_total, on_total, then_total, back_total}
use Rattle.std.specs.Ordering.{int_cmp, nat_cmp, ordering_then}
use Rattle.std.specs.declared.cmp.Ordering.{Ordering}
use Rattle.dary_heap_c.specs.declared.entry.Entry.{Entry}
use Rattle.dary_heap_c.specs.declared.sequenced.Sequenced.{Sequenced}

-- entries stand as their keys do, and the values don't count
abbrev pub by_key : Entry → Entry → Ordering
by_key a b = int_cmp a.key b.key

pub by_key-total : IsTotalOrder by_key
by_key-total = on_total (λ (entry : Entry). entry.key) int_cmp_total

-- the greater key is the greater, and of equal keys the lesser sequence number
abbrev pub key_then_earlier : Sequenced → Sequenced → Ordering
key_then_earlier a b = ordering_then (int_cmp a.key b.key) (nat_cmp b.sequence a.sequence)

pub key_then_earlier-total : IsTotalOrder key_then_earlier
key_then_earlier-total = then_total (on_total (λ (item : Sequenced). item.key) int_cmp_total) (back_total (on_total (λ (item : Sequenced). item.sequence) nat_cmp_total))

-- the greater key is the greater, and of equal keys the greater sequence number. Turned round, the lesser key is the greater, and of equal keys the lesser sequence number
abbrev pub key_then_later : Sequenced → Sequenced → Ordering
key_then_later a b = ordering_then (int_cmp a.key b.key) (nat_cmp a.sequence b.sequence)

pub key_then_later-total : IsTotalOrder key_then_later
key_then_later-total = then_total (on_total (λ (item : Sequenced). item.key) int_cmp_total) (on_total (λ (item : Sequenced). item.sequence) nat_cmp_total)

-- the place of a double of these 64 bits in the total order of IEEE 754: without the sign it is their number, and with the sign it counts down from -1 as the rest of them rises
abbrev pub total_order_key : ℕ → ℤ
total_order_key bits = if nat_lt bits (2 ^ 63) then pos bits else negsuc (bits - 2 ^ 63)

abbrev pub total_order : ℕ → ℕ → Ordering
total_order a b = int_cmp (total_order_key a) (total_order_key b)

pub total_order-total : IsTotalOrder total_order
total_order-total = on_total total_order_key int_cmp_total
