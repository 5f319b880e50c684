-- What a caller sees of a named heap: its entries. An entry is a name with its item.
use Rattle.std.specs.Prelude.{◌≡◌, ◌≢◌, ℕ, ◌∷◌, ◌++◌, Bool, true, List, [], Option, Some, None, IfSome, IfNone, Contains, length, slice_get}
use denote.Ref.{Bor}
use Rattle.std.specs.Fn.{FnOnceReturns, Once}
use Rattle.std.specs.List.{IsDistinct}
use Rattle.std.specs.Map.{keys_of, lookup}
use Rattle.std.specs.declared.cmp.Ordering.{Ordering}
use Rattle.std.specs.declared.cmp.Ordering.TheVariants.{Greater}
use Rattle.dary_heap.specs.Bag.{IsSameBag}
use Rattle.dary_heap.specs.Bounds.{RisesWithin, fix_bound, push_bound}
use Rattle.dary_heap.specs.HeapOrder.{IsHeapOrdered}

-- the entries in the order in which they are stored, how many more names there is room for, and how many comparisons were made so far
pub record Named (K T : Type 0) : Type 0 where
  pub entries : List (K × T)
  pub room : ℕ
  pub comparisons : ℕ

-- a heap without entries that has taken no memory and compared nothing
pub record IsNew {K T : Type 0} (heap : Named K T) : Type 0 where
  pub entries : heap.entries ≡ []
  pub room : heap.room ≡ 0
  pub uncounted : heap.comparisons ≡ 0

-- entries are ordered by their items alone
abbrev pub by_item : {K T : Type 0} → (T → T → Ordering) → K × T → K × T → Ordering
by_item cmp a b = cmp a.1 b.1

-- what holds of the entries at any time: each name once, and heap order by the items
pub record AreSound {K T : Type 0} (eq : K → K → Bool) (cmp : T → T → Ordering) (D : ℕ) (entries : List (K × T)) : Type 0 where
  pub distinct : IsDistinct eq (keys_of entries)
  pub ordered : IsHeapOrdered (by_item cmp) D entries

-- the entries of a name that may have an item
abbrev pub entries_of : {K T : Type 0} → K → Option T → List (K × T)
entries_of name None = []
entries_of name (Some item) = (name, item) ∷ []

module _ {K T : Type 0} (eq : K → K → Bool) (name : K) where
  -- the name has this item now, in place of the one that it had, if any; the other entries stay. What is stored is the name, or the equal one that was there
  pub record Gets (item : T) (old : List (K × T)) (given : Option T) (new : List (K × T)) : Type 0 where
    pub stored : K
    pub same : eq name stored ≡ true
    pub bag : IsSameBag ((stored, item) ∷ old) (entries_of stored given ++ new)
    pub absent : IfNone given ((stored ≡ name) × (lookup (eq name) old ≡ None))
    pub has : Contains new (stored, item)

  -- the name had no item, or one that this item exceeds, and has this one now
  pub record Raises (cmp : T → T → Ordering) (item : T) (old new : List (K × T)) : Type 0 where
    pub given : Option T
    pub gets : Gets item old given new
    pub exceeds : IfSome given (λ less. cmp item less ≡ Greater)

  -- the name has an item that this one doesn't exceed
  pub record IsReached (cmp : T → T → Ordering) (item : T) (entries : List (K × T)) : Type 0 where
    pub held : T
    pub has : lookup (eq name) entries ≡ Some held
    pub under : cmp item held ≢ Greater

  -- comparisons of an insert: at most those of a push if the name had no item, and else those of a fix at its place
  pub record InsertsWithin (D : ℕ) (old : List (K × T)) (before after : ℕ) : Type 0 where
    pub new : lookup (eq name) old ≡ None → RisesWithin before after (push_bound D (length old))
    pub held : (at : ℕ) (entry : K × T) → slice_get old at ≡ Some entry → eq name entry.0 ≡ true → RisesWithin before after (fix_bound D (length old) at)

-- the name that passes the test has this item now, in place of the one that it had; the name and the other entries stay
pub record Changes {K T : Type 0} (test : K → Bool) (given item : T) (old new : List (K × T)) : Type 0 where
  pub stored : K
  pub passes : test stored ≡ true
  pub bag : IsSameBag ((stored, item) ∷ old) ((stored, given) ∷ new)
  pub here : lookup test new ≡ Some item

module _ {F K T : Type 0} (calls : Once F (Bor K × (Bor T × Unit {0})) Bool) (predicate : F) (entry : K × T) where
  -- a predicate may be called on references to the name and the item
  abbrev pub MayAsk : Type 0
  MayAsk = (name : Bor K) (item : Bor T) → name.now ≡ entry.0 → item.now ≡ entry.1 → calls.pre predicate (name, (item, tt))

  -- and may answer so
  abbrev pub MayAnswer : Bool → Type 0
  MayAnswer answer = (name : Bor K) × (item : Bor T) × FnOnceReturns calls predicate (name, (item, tt)) answer × (name.now ≡ entry.0) × (item.now ≡ entry.1)
