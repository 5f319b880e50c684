-- The bag machine: what each command may reply, and the state that it leaves. A state is a bag with its front. The machine knows no arity, no vector and no memory:
-- a reply that says that memory allocation failed is a step if the other conditions on it hold.
use Rattle.std.specs.Prelude.{◌≡◌, ◌≢◌, ◌⊎◌, ℕ, zero, suc, ◌<◌, Bool, true, false, List, [], ◌∷◌, ◌++◌, length, take, Option, Some, None}
use Rattle.std.specs.List.Retain.{IsFiltered}
use Rattle.std.specs.declared.cmp.Ordering.{Ordering}
use Rattle.dary_heap.specs.Bag.{IsSameBag, IsGreatest, HasGreater}
use Rattle.dary_heap.specs.BagState.{IsState, IsSameState, IsJoined, front, front_with}

-- what may happen to a loan, how it ends, and what each act sees
pub data Act (T : Type 0) : Type 0 where
  Write : T → Act T
  Refresh : Act T

pub data End : Type 0 where
  PutBack : End
  TakeOut : End

pub data Seen (T : Type 0) : Type 0 where
  Old : T → Seen T
  Changed : Bool → Seen T

-- a heap in a command or a reply is the list of its items, read as a state
pub data Command (T P : Type 0) : Type 0 where
  Push : T → Command T P
  Pop : Command T P
  PopIf : P → Command T P
  Ask : P → Command T P
  Len : Command T P
  Retain : P → Command T P
  Extend : List T → Command T P
  Append : List T → Command T P
  Reserve : ℕ → Command T P
  Shrink : ℕ → Command T P
  Clear : Command T P
  Drain : ℕ → Command T P
  DrainSorted : ℕ → Command T P
  Loan : List (Act T) → End → Command T P

pub data Reply (T : Type 0) : Type 0 where
  Pushed : Reply T
  PushRefused : T → Reply T
  Popped : Option T → Reply T
  Asked : Option Bool → Reply T
  Size : ℕ → Reply T
  Done : Reply T
  ExtendRefused : Reply T
  AppendRefused : List T → Reply T
  Refused : Reply T
  Taken : List T → Reply T
  Loaned : Option (List (Seen T) × Option T) → Reply T

module _ {T : Type 0} (cmp : T → T → Ordering) where
  -- m is the front of old, and new is the state without it: its bag is the rest, its front is any
  abbrev pub Pops : List T → T → List T → Type 0
  Pops old m new = (front old ≡ Some m) × IsSameBag old (m ∷ new) × IsState cmp new

  -- pops give these items one after another, until there are k of them or the bag is empty
  abbrev pub PopsInTurn : List T → ℕ → List T → Type 0
  PopsInTurn old zero taken = taken ≡ []
  PopsInTurn old (suc k) [] = old ≡ []
  PopsInTurn old (suc k) (m ∷ taken) = (new : List T) × Pops old m new × PopsInTurn new k taken

  -- the acts on a loan of held, where rest is the rest of the bag: what they see, what is held at last, and the rest then
  abbrev pub Acts : T → List T → List (Act T) → List (Seen T) → T → List T → Type 0
  Acts held rest [] [] last left = (last ≡ held) × IsSameBag rest left
  Acts held rest (Write x ∷ acts) (Old y ∷ seen) last left = (y ≡ held) × Acts x rest acts seen last left
  -- the held value is put back, and some greatest value is held in its place
  Acts held rest (Refresh ∷ acts) (Changed true ∷ seen) last left =
      HasGreater cmp rest held
      × ((next : T) × (others : List T) × IsGreatest cmp (held ∷ rest) next × IsSameBag (held ∷ rest) (next ∷ others) × Acts next others acts seen last left)
  Acts held rest (Refresh ∷ acts) (Changed false ∷ seen) last left = (HasGreater cmp rest held → ⊥) × Acts held rest acts seen last left
  Acts held rest acts seen last left = ⊥

  -- how a loan ends that holds last: what is popped, and the state after it. A value that is put back is its front if none of the rest is strictly greater, and else any
  abbrev pub Ends : T → List T → End → Option T → List T → Type 0
  Ends last left PutBack None new = IsSameBag (last ∷ left) new × IsState cmp new × ((HasGreater cmp left last → ⊥) → front new ≡ Some last)
  Ends last left TakeOut (Some v) new = (v ≡ last) × IsSameBag left new × IsState cmp new
  Ends last left end popped new = ⊥

-- `calls p x a q`: the predicate p, called on x, may return a and be q from then on
module _ {T P : Type 0} (cmp : T → T → Ordering) (calls : P → T → Bool → P → Type 0) where
  -- p, asked once about the front, may give this answer
  abbrev pub MayAnswer : List T → P → Bool → Type 0
  MayAnswer state p answer = (f : T) × (front state ≡ Some f) × ((after : P) × calls p f answer after)

  -- from the state old, the machine may give this reply to the command and leave the state new
  abbrev pub Step : List T → Command T P → Reply T → List T → Type 0
  Step old (Push x) Pushed new = IsSameBag (x ∷ old) new × (front new ≡ Some (front_with cmp x (front old)))
  Step old (Push x) (PushRefused y) new = (y ≡ x) × IsSameState old new
  Step old Pop (Popped None) new = (old ≡ []) × (new ≡ [])
  Step old Pop (Popped (Some m)) new = Pops cmp old m new
  Step old (Ask p) (Asked None) new = (old ≡ []) × (new ≡ [])
  Step old (Ask p) (Asked (Some answer)) new = MayAnswer old p answer × IsSameState old new
  Step old (PopIf p) (Popped None) new = ((old ≡ []) × (new ≡ [])) ⊎ (MayAnswer old p false × IsSameState old new)
  Step old (PopIf p) (Popped (Some m)) new = Pops cmp old m new × ((after : P) × calls p m true after)
  Step old Len (Size n) new = (n ≡ length old) × IsSameState old new
  Step old (Reserve n) Done new = IsSameState old new
  Step old (Reserve n) Refused new = IsSameState old new
  Step old (Shrink n) Done new = IsSameState old new
  Step old (Shrink n) Refused new = IsSameState old new
  Step old (Extend xs) Done new = IsJoined cmp old xs new
  Step old (Extend xs) ExtendRefused new = (taken : List T) × (left : List T) × (xs ≡ taken ++ left) × (0 < length left) × IsJoined cmp old taken new
  Step old (Append other) Done new = IsJoined cmp old other new
  Step old (Append other) (AppendRefused back) new = IsSameState other back × IsSameState old new
  -- the predicate is asked about the items of some listing that begins with the front, in its order, once each and about nothing else. If it removes none, the front stays
  Step old (Retain p) Done new =
      (listing : List T) × (kept : List T)
      × IsSameState old listing × IsFiltered calls p listing kept × IsSameBag kept new × IsState cmp new × (kept ≡ listing → front new ≡ front old)
  Step old Clear Done new = new ≡ []
  Step old (Drain k) (Taken taken) new = ((listing : List T) × IsSameState old listing × (taken ≡ take k listing)) × (new ≡ [])
  Step old (Drain k) Refused new = (old ≢ []) × (k ≢ 0) × IsSameState old new
  Step old (DrainSorted k) (Taken taken) new = PopsInTurn cmp old k taken × (new ≡ [])
  Step old (DrainSorted k) Refused new = (old ≢ []) × (k ≢ 0) × IsSameState old new
  Step old (Loan acts end) (Loaned None) new = (old ≡ []) × (new ≡ [])
  Step old (Loan acts end) (Loaned (Some told)) new =
      (m : T) × (rest : List T) × (last : T) × (left : List T)
      × (front old ≡ Some m) × IsSameBag old (m ∷ rest) × Acts cmp m rest acts told.0 last left × Ends cmp last left end told.1 new
  Step old (Loan acts end) Refused new = (old ≢ []) × (acts ≢ []) × IsSameState old new
  -- no other reply is given
  Step old command reply new = ⊥

  -- from the state old, the machine may give these replies to these commands, one step after another, and these are the states that they leave
  abbrev pub Steps : List T → List (Command T P) → List (Reply T) → List (List T) → Type 0
  Steps old [] [] [] = Unit {0}
  Steps old (command ∷ commands) (reply ∷ replies) (new ∷ later) = Step old command reply new × Steps new commands replies later
  Steps old commands replies states = ⊥

-- the state at the end of a run: the last that was left, or the one at its start if there is none
abbrev pub last_state : {T : Type 0} → List T → List (List T) → List T
last_state old [] = old
last_state old (new ∷ later) = last_state new later
