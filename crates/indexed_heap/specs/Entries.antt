-- What a caller sees of an indexed heap: its entries. An entry is a key with its item.
use Rattle.std.specs.Prelude.{◌≡◌, ◌≢◌, ℕ, ◌∷◌, ◌++◌, Bool, List, [], Option, Some, None, IfSome, IfNone, Contains, length, slice_get, if◌then◌else◌, ◌==◌}
use Rattle.std.specs.Fn.{FnOnceReturns, Once}
use denote.Ref.{Bor}
use Rattle.std.specs.declared.cmp.Ordering.{Ordering}
use Rattle.std.specs.declared.cmp.Ordering.TheVariants.{Greater}
use Rattle.dary_heap.specs.Bag.{IsSameBag}
use Rattle.dary_heap.specs.Bounds.{RisesWithin, fix_bound, push_bound}
use Rattle.dary_heap.specs.HeapOrder.{IsHeapOrdered}

-- entries are ordered by their items alone
abbrev pub by_item : {T : Type 0} → (T → T → Ordering) → ℕ × T → ℕ × T → Ordering
by_item cmp a b = cmp a.1 b.1

-- the entries in the order in which they are stored, how many there is room for, below which number keys have a place, and how many comparisons were made so far
pub record Indexed (T : Type 0) : Type 0 where
  pub entries : List (ℕ × T)
  pub capacity : ℕ
  pub keys : ℕ
  pub comparisons : ℕ

-- no two places have entries with the same key
pub record AreDistinct {T : Type 0} (entries : List (ℕ × T)) : Type 0 where
  pub once : (i j : ℕ) (a b : ℕ × T) → slice_get entries i ≡ Some a → slice_get entries j ≡ Some b → a.0 ≡ b.0 → i ≡ j

-- what holds of the entries at any time: each key once, and heap order by the items
pub record AreSound {T : Type 0} (cmp : T → T → Ordering) (D : ℕ) (entries : List (ℕ × T)) : Type 0 where
  pub distinct : AreDistinct entries
  pub ordered : IsHeapOrdered (by_item cmp) D entries

-- no entry has this key
pub record IsAbsent {T : Type 0} (key : ℕ) (entries : List (ℕ × T)) : Type 0 where
  pub none : (i : ℕ) (entry : ℕ × T) → slice_get entries i ≡ Some entry → entry.0 ≢ key

-- the entry at this place has this key
pub record IsEntry {T : Type 0} (entries : List (ℕ × T)) (at key : ℕ) : Type 0 where
  pub entry : ℕ × T
  pub there : slice_get entries at ≡ Some entry
  pub has : entry.0 ≡ key

-- the entries read as a map: the item of a key, if it has one
abbrev pub item_of : {T : Type 0} → ℕ → List (ℕ × T) → Option T
item_of key [] = None
item_of key (entry ∷ entries) = if entry.0 == key then Some entry.1 else item_of key entries

-- the entries of a key that may have an item
abbrev pub entries_of : {T : Type 0} → ℕ → Option T → List (ℕ × T)
entries_of key None = []
entries_of key (Some item) = (key, item) ∷ []

-- of the old entries those are left that don't have this key; it had this item, if any
pub record Loses {T : Type 0} (key : ℕ) (old : List (ℕ × T)) (given : Option T) (new : List (ℕ × T)) : Type 0 where
  pub bag : IsSameBag old (entries_of key given ++ new)
  pub absent : IfNone given (IsAbsent key old)

-- the key has this item now, in place of the one that it had, if any; the other entries stay
pub record Gets {T : Type 0} (key : ℕ) (item : T) (old : List (ℕ × T)) (given : Option T) (new : List (ℕ × T)) : Type 0 where
  pub bag : IsSameBag ((key, item) ∷ old) (entries_of key given ++ new)
  pub absent : IfNone given (IsAbsent key old)
  pub has : Contains new (key, item)

-- comparisons of an insert: at most those of a push if the key had no item, and else those of a fix at its place
pub record InsertsWithin {T : Type 0} (D key : ℕ) (old : List (ℕ × T)) (before after : ℕ) : Type 0 where
  pub new : IsAbsent key old → RisesWithin before after (push_bound D (length old))
  pub held : (at : ℕ) → IsEntry old at key → RisesWithin before after (fix_bound D (length old) at)

module _ {T : Type 0} (order : ℕ × T → ℕ × T → Ordering) (key : ℕ) (item : T) where
  -- the key had no item, or one that this item exceeds, and has this one now
  pub record Raises (old new : List (ℕ × T)) : Type 0 where
    pub given : Option T
    pub gets : Gets key item old given new
    pub exceeds : IfSome given (λ less. order (key, item) (key, less) ≡ Greater)

  -- the key has an item that this one doesn't exceed
  pub record IsReached (entries : List (ℕ × T)) : Type 0 where
    pub held : T
    pub has : Contains entries (key, held)
    pub under : order (key, item) (key, held) ≢ Greater

module _ {F T : Type 0} (calls : Once F (ℕ × (Bor T × Unit {0})) Bool) (predicate : F) (entry : ℕ × T) where
  -- a predicate may be called on the key and a reference to the item
  abbrev pub MayAsk : Type 0
  MayAsk = (shown : Bor T) → shown.now ≡ entry.1 → calls.pre predicate (entry.0, (shown, tt))

  -- and may answer so
  abbrev pub MayAnswer : Bool → Type 0
  MayAnswer answer = (shown : Bor T) × FnOnceReturns calls predicate (entry.0, (shown, tt)) answer × (shown.now ≡ entry.1)
