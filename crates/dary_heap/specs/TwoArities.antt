-- The law on two arities: without ties, questions and refusals, the replies and the bag at the end are the same for every heap.
-- The machine knows no arity. So the law speaks of any two of its runs, and through `run` of heaps of any two arities.
use Rattle.std.specs.Prelude.{◌≡◌, Bool, List, ◌++◌, Contains}
use Rattle.std.specs.List.{AllByRecursion}
use Rattle.std.specs.declared.cmp.Ordering.{Ordering}
use Rattle.std.specs.declared.cmp.Ordering.TheVariants.{Equal}
use Rattle.dary_heap.specs.Asking.{items_in}
use Rattle.dary_heap.specs.Bag.{IsSameBag}
use Rattle.dary_heap.specs.Machine.{Command, Reply, PopIf, Ask, Retain, Append, Drain, PushRefused, ExtendRefused, Refused, Steps, last_state}
use Rattle.dary_heap.specs.BagState.{IsState}

-- the command holds no predicate and no heap, and no drain in slice order
abbrev pub IsSettled : {T P : Type 0} → Command T P → Type 0
IsSettled (PopIf p) = ⊥
IsSettled (Ask p) = ⊥
IsSettled (Retain p) = ⊥
IsSettled (Append other) = ⊥
IsSettled (Drain k) = ⊥
IsSettled command = Unit {0}

-- the reply doesn't say that memory allocation failed
abbrev pub IsUnrefused : {T : Type 0} → Reply T → Type 0
IsUnrefused (PushRefused x) = ⊥
IsUnrefused ExtendRefused = ⊥
IsUnrefused Refused = ⊥
IsUnrefused reply = Unit {0}

-- no two different values in the list compare equal
pub record HasNoTies {T : Type 0} (cmp : T → T → Ordering) (values : List T) : Type 0 where
  pub alike : (x y : T) → Contains values x → Contains values y → cmp x y ≡ Equal → x ≡ y

-- the machine may give these replies to these commands on the way from one state to another, and none of them is a refusal
pub record RunsUnrefused {T P : Type 0} (cmp : T → T → Ordering) (calls : P → T → Bool → P → Type 0) (start : List T) (commands : List (Command T P)) (replies : List (Reply T))
    (end : List T) : Type 0 where
  pub states : List (List T)
  pub begins : IsState cmp start
  pub run : Steps cmp calls start commands replies states
  pub ends : last_state start states ≡ end
  pub unrefused : AllByRecursion IsUnrefused replies

-- two runs from the same bag by the same commands give the same replies and leave the same bag
abbrev pub SameRepliesAtTwoArities : {T P : Type 0} → (T → T → Ordering) → (P → T → Bool → P → Type 0) → Type 0
SameRepliesAtTwoArities {T} {P} cmp calls =
    (commands : List (Command T P)) (start start' : List T) (replies replies' : List (Reply T)) (end end' : List T)
    → AllByRecursion IsSettled commands
    → IsSameBag start start'
    → HasNoTies cmp (start ++ items_in commands)
    → RunsUnrefused cmp calls start commands replies end
    → RunsUnrefused cmp calls start' commands replies' end'
    → (replies ≡ replies') × IsSameBag end end'
