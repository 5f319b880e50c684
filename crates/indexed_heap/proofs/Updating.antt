-- An entry whose item a function changed, and not its key.
use Rattle.dary_heap.proofs.Common.{◌≡◌, ℕ, ◌<◌, List, ◌∷◌, length, set, refl, ap, ◌∙◌, subst, Some, IsPermutation}
use Rattle.std.specs.Fn.{Once}
use denote.Ref.{MutBor}
use Rattle.dary_heap.specs.Path.{GoesTo}
use Rattle.dary_heap.specs.Updating.{IsUpdated}
use Rattle.indexed_heap.specs.Entries.{Gets, IsEntry}
use Rattle.indexed_heap.specs.Places.{AreRight, HasMoved}
use Rattle.indexed_heap.proofs.Changing.{entry_is, replaced_gets}
use Rattle.indexed_heap.proofs.Raising.{set_moved}

module _ {P X : Type 0} {calls : Once P (MutBor (ℕ × X) × Unit {0}) (Unit {0} × (MutBor (ℕ × X) × Unit {0}))} {f : P} (D at stop : ℕ) (entries new : List (ℕ × X)) (key : ℕ)
    (there : IsEntry entries at key) (within : stop < length new) (u : IsUpdated calls f D at stop entries new) (same : u.left.0 ≡ u.held.0) where
  -- the key's entry with the item that was left
  left_is : u.left ≡ (key, u.left.1)
  left_is =
      let was = u.was in let told = there.there in
      let held : u.held ≡ there.entry = cc in
      entry_is u.left key u.left.1 (same ∙ ap (λ (e : ℕ × X). e.0) held ∙ there.has) refl

  path : GoesTo D at stop (set entries at (key, u.left.1)) new
  path = subst (λ (e : ℕ × X). GoesTo D at stop (set entries at e) new) left_is u.path

  pub updated_moved : (places : List ℕ) → AreRight entries places → HasMoved D at stop new places
  updated_moved places h = set_moved D entries places at key u.left.1 stop new h there within path

  pub updated_gets : Gets key u.left.1 entries (Some u.held.1) new
  updated_gets = replaced_gets D key u.left.1 entries at there u.held stop new u.was (subst (λ (e : ℕ × X). IsPermutation (e ∷ entries) (u.held ∷ new)) left_is u.bag) within path
