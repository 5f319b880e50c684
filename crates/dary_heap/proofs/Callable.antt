-- Predicates that may be called on anything, and again after each call, as most closures may.
use Rattle.dary_heap.proofs.Common.{Bool, List, [], ◌∷◌, All, Mut, Bor, TakesInTurn, MayCall, refl}
use Rattle.dary_heap.specs.Machine.{Command}
use denote.Param.Always.{always_mut, mut_next}

module _ {T P : Type 0} (calls : Mut P (Bor T × Unit {0}) Bool) where
  -- such a predicate may be asked about one item after another
  pub takes_in_turn : (p : P) (items : List T) → always_mut calls p → TakesInTurn calls p items
  takes_in_turn p [] always = tt
  takes_in_turn p (x ∷ xs) always =
      (λ y is. (always.at ((y, tt) ∷ [])).0, λ answer after call. takes_in_turn after xs (mut_next calls p (call.shown, tt) answer after after call.called refl always))

  -- such a predicate of a command may be called on these items
  one_callable : (items : List T) (command : Command T P) → ((p : P) → always_mut calls p) → MayCall calls items command
  one_callable items command always = record {
    pop_if = λ p is x in' y shows. ((always p).at ((y, tt) ∷ [])).0;
    ask = λ p is x in' y shows. ((always p).at ((y, tt) ∷ [])).0;
    retain = λ p is. record { in_turn = λ xs among. takes_in_turn p xs (always p) };
  }

  -- such predicates of commands may be called on these items
  pub all_callable : (items : List T) (commands : List (Command T P)) → ((p : P) → always_mut calls p) → All (MayCall calls items) commands
  all_callable items commands always k d lt = one_callable items _ always
