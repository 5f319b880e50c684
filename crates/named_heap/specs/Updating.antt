-- An item that a function changes inside the heap.
use Rattle.std.specs.Prelude.{◌≡◌, Bool, List, Some}
use Rattle.std.specs.Fn.{FnOnceReturnsAtMut, Once}
use Rattle.std.specs.Map.{lookup}
use denote.Ref.{MutBor}
use Rattle.named_heap.specs.Entries.{Changes}

-- f was called on the item of the name that passes the test, and the name has the item that f left now; the other entries stay
pub record Updates {F K T : Type 0} (calls : Once F (MutBor T × Unit {0}) (Unit {0} × (MutBor T × Unit {0}))) (f : F) (test : K → Bool) (old new : List (K × T)) : Type 0 where
  pub held : T
  pub left : T
  pub was : lookup test old ≡ Some held
  pub called : FnOnceReturnsAtMut calls f held tt left
  pub changes : Changes test held left old new
