-- States. A state is a bag with its front. It is read from a list: the bag is that of the list, and the front is the first item, none exactly if there is no item.
-- So a slice is read as a state, and of the order behind its first item nothing is read.
use Rattle.std.specs.Prelude.{◌≡◌, List, [], ◌++◌, slice_get, Option, Some, None, if◌then◌else◌}
use Rattle.std.specs.Ordering.{is_gt, is_lt}
use Rattle.std.specs.declared.cmp.Ordering.{Ordering}
use Rattle.dary_heap.specs.Bag.{IsSameBag, IsGreatest}

abbrev pub front : {T : Type 0} → List T → Option T
front state = slice_get state 0

-- the front is a greatest value of the bag
pub record IsState {T : Type 0} (cmp : T → T → Ordering) (state : List T) : Type 0 where
  pub greatest : (f : T) → front state ≡ Some f → IsGreatest cmp state f

-- the same bag, with the same front
pub record IsSameState {T : Type 0} (old new : List T) : Type 0 where
  pub bag : IsSameBag old new
  pub first : front new ≡ front old

-- the bag of old with these items more. Its front is any, and that of old if there are no such items
pub record IsJoined {T : Type 0} (cmp : T → T → Ordering) (old items new : List T) : Type 0 where
  pub bag : IsSameBag (old ++ items) new
  pub state : IsState cmp new
  pub first : items ≡ [] → front new ≡ front old

-- the front once x was added to a bag with this front: x if there was none or x is strictly greater, else the one that was
abbrev pub front_with : {T : Type 0} → (T → T → Ordering) → T → Option T → T
front_with cmp x None = x
front_with cmp x (Some f) = if is_gt (cmp x f) then x else f

-- the item that goes if x comes to a bag with this front and a greatest one is taken out: the front if x is strictly less, else x itself
abbrev pub push_popped : {T : Type 0} → (T → T → Ordering) → T → Option T → T
push_popped cmp x None = x
push_popped cmp x (Some f) = if is_lt (cmp x f) then f else x
