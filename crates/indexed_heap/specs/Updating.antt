-- An item that a function changes inside the heap.
use Rattle.std.specs.Prelude.{◌≡◌, ℕ, List, Some}
use Rattle.std.specs.Fn.{FnOnceReturnsAtMut, Once}
use denote.Ref.{MutBor}
use Rattle.indexed_heap.specs.Entries.{Gets, item_of}

-- f was called on the item of this key, which has the item that f left now; the other entries stay
pub record Updates {F T : Type 0} (calls : Once F (MutBor T × Unit {0}) (Unit {0} × (MutBor T × Unit {0}))) (f : F) (key : ℕ) (old new : List (ℕ × T)) : Type 0 where
  pub held : T
  pub left : T
  pub was : item_of key old ≡ Some held
  pub called : FnOnceReturnsAtMut calls f held tt left
  pub gets : Gets key left old (Some held) new
