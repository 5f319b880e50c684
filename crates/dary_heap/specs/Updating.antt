-- An item that a function changes where it stands, and that goes from there to where it belongs.
use Rattle.std.specs.Prelude.{◌≡◌, ℕ, List, ◌∷◌, Some, set, slice_get}
use Rattle.std.specs.Fn.{FnOnceReturnsAtMut, Once}
use denote.Ref.{MutBor}
use Rattle.dary_heap.specs.Bag.{IsSameBag}
use Rattle.dary_heap.specs.Path.{GoesTo}

-- f was called on the item at this place, and the item that it left went from there to place `stop`
pub record IsUpdated {F T : Type 0} (calls : Once F (MutBor T × Unit {0}) (Unit {0} × (MutBor T × Unit {0}))) (f : F) (D place stop : ℕ) (old new : List T) : Type 0 where
  pub held : T
  pub left : T
  pub was : slice_get old place ≡ Some held
  pub called : FnOnceReturnsAtMut calls f held tt left
  pub bag : IsSameBag (left ∷ old) (held ∷ new)
  pub path : GoesTo D place stop (set old place left) new
