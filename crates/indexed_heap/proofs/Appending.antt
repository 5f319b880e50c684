-- Entries of another heap that are inserted from the last to the first.
use Rattle.dary_heap.proofs.Common.{◌≡◌, ℕ, suc, ◌+◌, ◌-◌, ◌*◌, ◌<◌, ◌≤◌, List, ◌∷◌, length, drop, Option, Some, None, Result, Ok, Err, refl, sym, ap, ◌∙◌, arith, inl, inr, cases_eq, get_or, slice_get, slice_get-get_or}
use Rattle.dary_heap.proofs.Common.{slice_get_within, get_or_from_slice_get, RisesWithin, sink_bound, Ordering, Bool, true, false, if◌then◌else◌}
use Rattle.dary_heap.specs.Contents.{Contents}
use Rattle.dary_heap.proofs.Depth.{times_depth-later}
use Rattle.std.proofs.Math.Seq.{drop-cons}
use Rattle.std.specs.Option.{option_or}
use Rattle.std.specs.Prelude.{IfOk, IsOk, OnOk}
use Rattle.indexed_heap.specs.Entries.{AreDistinct, AreSound, Gets, Indexed, InsertsWithin, IsEntry, item_of}
use Rattle.indexed_heap.proofs.AsMap.{Gets-here, Gets-others, item_of-first, item_of-later, item_of-none, item_of-there}
use Rattle.indexed_heap.proofs.Bounding.{push_within}
use Rattle.indexed_heap.proofs.Callers.{insert_within_sink}

-- what holds of what a call that didn't fail gave
pub if_ok : {A E : Type 0} (P : A → Type 0) (result : Result A E) → IsOk result → IfOk result P → (given : A) × P given
if_ok P (Ok given) is h = (given, h)
if_ok P (Err e) is h = cc

pub on_ok : {A E P : Type 0} (result : Result A E) → IsOk result → OnOk result P → P
on_ok (Ok given) is h = h
on_ok (Err e) is h = cc

module _ {T : Type 0} where
  -- each key has the item that it has among the later entries, or else the one that it had
  abbrev pub AreJoined : List (ℕ × T) → List (ℕ × T) → List (ℕ × T) → Type 0
  AreJoined later old new = (key : ℕ) → item_of key new ≡ option_or (item_of key later) (item_of key old)

  -- one entry more
  pub joins_one : (entry : ℕ × T) (later old now new : List (ℕ × T)) (given : Option T) → AreJoined later old now → Gets entry.0 entry.1 now given new → AreDistinct new → AreJoined (entry ∷ later) old new
  joins_one entry later old now new given joined gets once key = elim (cases_eq entry.0 key) [
    | inl is ↦
        let here : item_of entry.0 new ≡ Some entry.1 = Gets-here entry.0 entry.1 now new given gets once in
        ap (λ k. item_of k new) (sym is) ∙ here ∙ ap (λ (o : Option T). option_or o (item_of key old)) (sym (item_of-first key entry later is))
    | inr apart ↦
        Gets-others entry.0 entry.1 now new given gets once key (λ e. apart (sym e)) ∙ joined key ∙ ap (λ (o : Option T). option_or o (item_of key old)) (sym (item_of-later key entry later apart))
  ]

  -- the last of what is left stands before what was taken
  pub drop_last : (old left : List (ℕ × T)) (last : ℕ) (entry : ℕ × T) → ((i : ℕ) → i < length left → slice_get left i ≡ slice_get old i) → slice_get left last ≡ Some entry → last < length old →
      drop last old ≡ entry ∷ drop (suc last) old
  drop_last old left last entry same there inside =
      let within : last < length left = slice_get_within left last entry there in
      let is : get_or old last entry ≡ entry = get_or_from_slice_get old last entry entry (sym (same last within) ∙ there) in
      drop-cons old last entry inside ∙ ap (λ (e : ℕ × T). e ∷ drop (suc last) old) is

  -- comparisons of an insert, by how many entries there are alone
  pub inserts_within : (D key before after : ℕ) (old : List (ℕ × T)) → InsertsWithin D key old before after → RisesWithin before after (sink_bound D (length old) + 1)
  inserts_within D key before after old h = by (item_of key old) refl
    where
      by : (held : Option T) → item_of key old ≡ held → RisesWithin before after (sink_bound D (length old) + 1)
      by None none = let counted = h.new (item_of-none key old none) in record { rises = counted.rises; within = omega (arith, counted.within, push_within D (length old)) }
      by (Some item) has =
          let in' = item_of-there key old item has in
          let at : IsEntry old in'.0 key = record { entry = (key, item); there = slice_get-get_or old in'.0 (key, item) in'.1 ∙ ap Some in'.2; has = refl } in
          let counted = insert_within_sink D key in'.0 before after old at h in
          record { rises = counted.rises; within = omega (arith, counted.within) }

-- with more entries there are no fewer
pub sink_later : (D n m : ℕ) → n ≤ m → sink_bound D n ≤ sink_bound D m
sink_later D n m le = times_depth-later D (n - 1) (m - 1) (omega arith)

-- one more insert of those that are counted
pub count_one : (D start before after taken n m : ℕ) → RisesWithin start before (taken * (sink_bound D m + 1)) → n ≤ m → RisesWithin before after (sink_bound D n + 1) → RisesWithin start after ((taken + 1) * (sink_bound D m + 1))
count_one D start before after taken n m so_far le one = record {
  rises = omega (arith, so_far.rises, one.rises);
  within = let more : (taken + 1) * (sink_bound D m + 1) ≡ taken * (sink_bound D m + 1) + (sink_bound D m + 1) = omega arith in omega (arith, so_far.within, one.within, sink_later D n m le, more);
}

-- so far the entries behind those that are left were moved from the start's entries into the start's heap
pub record AreMoved {T : Type 0} (cmp : T → T → Ordering) (D : ℕ) (heap_before : Indexed T) (before : Contents (ℕ × T)) (heap : Indexed T) (left : Contents (ℕ × T)) : Type 0 where
  pub fewer : length left.items ≤ length before.items
  pub same : (i : ℕ) → i < length left.items → slice_get left.items i ≡ slice_get before.items i
  pub joined : AreJoined (drop (length left.items) before.items) heap_before.entries heap.entries
  pub sound : AreSound cmp D heap.entries
  pub long : length heap.entries + length left.items ≤ length heap_before.entries + length before.items
  pub capacity : heap.capacity ≡ heap_before.capacity
  pub keys : heap.keys ≡ heap_before.keys
  pub counted : RisesWithin heap_before.comparisons heap.comparisons ((length before.items - length left.items) * (sink_bound D (length heap_before.entries + length before.items) + 1))
  pub uncounted : left.comparisons ≡ before.comparisons
  pub same_capacity : left.capacity ≡ before.capacity

pub at_most_one : (b : Bool) → (if b then 0 else 1) ≤ 1
at_most_one true = omega arith
at_most_one false = omega arith
