-- The precondition of a run: its predicates may be called on the items that come up in it.
use Rattle.std.specs.Prelude.{◌≡◌, Bool, List, [], ◌∷◌, ◌++◌, Contains, Some, slice_get}
use Rattle.std.specs.Fn.{Mut, TakesAt, CalledAt}
use denote.Ref.{Bor}
use Rattle.dary_heap.specs.Bag.{IsSubBag}
use Rattle.dary_heap.specs.Machine.{Act, Write, Refresh, Command, Push, PopIf, Ask, Retain, Extend, Append, Loan}

module _ {T P : Type 0} (calls : Mut P (Bor T × Unit {0}) Bool) where
  -- p may be called on each of these items in turn, whatever it returns
  abbrev pub TakesInTurn : P → List T → Type 0
  TakesInTurn p [] = Unit {0}
  TakesInTurn p (x ∷ xs) = TakesAt calls p x × ((answer : Bool) (after : P) → CalledAt calls p x answer after → TakesInTurn after xs)

  -- p may be called on every one of these items, in any order, and on none more often than it occurs among them
  pub record IsCallableOn (items : List T) (p : P) : Type 0 where
    pub in_turn : (xs : List T) → IsSubBag xs items → TakesInTurn p xs

  -- p may be called once, on any of these items
  abbrev pub IsCallableOnce : List T → P → Type 0
  IsCallableOnce items p = (x : T) → Contains items x → TakesAt calls p x

  -- the predicate of a command, if it has one, may be called on these items: that of `PopIf` or `Ask` once, so that there is no right to a second call
  pub record MayCall (items : List T) (command : Command T P) : Type 0 where
    pub pop_if : (p : P) → command ≡ PopIf p → IsCallableOnce items p
    pub ask : (p : P) → command ≡ Ask p → IsCallableOnce items p
    pub retain : (p : P) → command ≡ Retain p → IsCallableOn items p

  -- what one step of a run asks: the predicate of a `PopIf` or an `Ask` about the front, if there is one, once, and that of a `Retain` about each item in turn. Only private functions speak of it
  pub record MayServe (items : List T) (command : Command T P) : Type 0 where
    pub pop_if : (p : P) → command ≡ PopIf p → (x : T) → slice_get items 0 ≡ Some x → TakesAt calls p x
    pub ask : (p : P) → command ≡ Ask p → (x : T) → slice_get items 0 ≡ Some x → TakesAt calls p x
    pub retain : (p : P) → command ≡ Retain p → TakesInTurn p items

-- the items that acts on a loan hold
abbrev pub written : {T : Type 0} → List (Act T) → List T
written [] = []
written (Write x ∷ acts) = x ∷ written acts
written (Refresh ∷ acts) = written acts

-- the items that commands hold
abbrev pub items_in : {T P : Type 0} → List (Command T P) → List T
items_in [] = []
items_in (Push x ∷ commands) = x ∷ items_in commands
items_in (Extend xs ∷ commands) = xs ++ items_in commands
items_in (Append other ∷ commands) = other ++ items_in commands
items_in (Loan acts end ∷ commands) = written acts ++ items_in commands
items_in (command ∷ commands) = items_in commands
