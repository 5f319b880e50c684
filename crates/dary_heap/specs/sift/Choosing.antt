-- What the choice of the greatest child of a hole's place finds. Only private functions speak of these.
use Rattle.std.specs.Prelude.{◌≡◌, ℕ, ◌+◌, ◌-◌, ◌*◌, ◌<◌, ◌≤◌, List, length, Option, Some, slice_get, IfSome, IfNone}
use Rattle.std.specs.declared.cmp.Ordering.{Ordering}
use Rattle.dary_heap.specs.declared.hole.pointers.Hole.{Hole}
use Rattle.dary_heap.specs.HeapOrder.{arity, IsLastGreatestChild}
use Rattle.dary_heap.specs.hole.Hole.{filled}
use Rattle.dary_heap.specs.sift.Sifting.{IsLastGreatest, children}

-- the hole is at place `at` of len
pub record IsAt {T : Type 0} (hole : Hole T) (at len : ℕ) : Type 0 where
  pub here : at ≡ hole.at
  pub places : len ≡ length hole.items

-- the hole's place has children, which begin at first
pub record HasChildrenFrom {T : Type 0} (D : ℕ) (hole : Hole T) (at first len : ℕ) : Type 0 where
  pub here : IsAt hole at len
  pub from : first ≡ at * arity D + 1
  pub some : first < len

-- where the children of place `at` begin among len places, if it has any
pub record IsFirstChild (D at len : ℕ) (child : Option ℕ) : Type 0 where
  pub first : IfSome child (λ c. (c ≡ at * arity D + 1) × (c < len))
  pub leaf : IfNone child (len ≤ at * arity D + 1)

-- the places from first up to end stand after the hole
pub record IsBelow {T : Type 0} (hole : Hole T) (first end : ℕ) : Type 0 where
  pub after : hole.at < first
  pub some : first < end
  pub within : end ≤ length hole.items

module _ {T : Type 0} (cmp : T → T → Ordering) where
  -- the last greatest item from first up to end is at place, and it is this item
  pub record IsGreatestAt (first end place : ℕ) (item : T) (items : List T) : Type 0 where
    pub greatest : IsLastGreatest cmp first end place items
    pub there : slice_get items place ≡ Some item

  -- best is chosen as the last greatest from first up to end, in one comparison less than there are items
  pub record Chooses (first end best : ℕ) (items : List T) (before after : ℕ) : Type 0 where
    pub greatest : IsLastGreatest cmp first end best items
    pub counted : after + first + 1 ≡ before + end

  -- child is the last greatest child of the hole's place, whatever item fills it, found in one comparison less than there are children
  pub record FindsGreatestChild (D : ℕ) (hole : Hole T) (child : ℕ) (before after : ℕ) : Type 0 where
    pub greatest : (item : T) → IsLastGreatestChild cmp D hole.at child (filled hole item)
    pub counted : after + 1 ≡ before + children D (length hole.items - 1) hole.at
