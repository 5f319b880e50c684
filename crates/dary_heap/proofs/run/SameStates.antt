-- Each step of the machine leads from a state to a state, of which it reads no more than the bag and the front: the order of the list behind the first item is free.
use Rattle.dary_heap.proofs.{◌≡◌, ◌≢◌, Bool, List, [], ◌∷◌, refl, sym, ap, ◌∙◌, subst, rules, inl, inr, Option, Some, None, if◌then◌else◌, IsTotalOrder, is_gt, ordering_reverse, Ordering, Greater}
use Rattle.dary_heap.proofs.{Contains-permutation, IsSameBag, IsGreatest, IsGreatest-same_bag, End, PutBack, TakeOut, Command, Reply, Push, PopIf, Loan, Pushed, Popped, Loaned, Ends, Step, IsState}
use Rattle.dary_heap.proofs.{IsSameState, front, front_with, ℕ, zero, suc, false, length, arith, nil_from_length, IsPermutation-sym, IsPermutation-trans, IsPermutation-cons, IsPermutation-append_left}
use Rattle.dary_heap.proofs.{length_permutation, Retain, Extend, Drain, Done, ExtendRefused, Taken, Pops, PopsInTurn, IsJoined, Contains-first, IsGreatest-overtaken, IsGreatest-stays, alone}
use Rattle.dary_heap.proofs.{not_greater-self}
use Rattle.dary_heap.specs.Bag.{HasGreater}
use Rattle.dary_heap.specs.Machine.{MayAnswer, Pop, Ask, Len, Append, Clear, DrainSorted, Refused}

-- a strictly greater value in one listing of a bag is one in every other
pub HasGreater-same_bag : {X : Type 0} (cmp : X → X → Ordering) (xs ys : List X) (m : X) → IsSameBag xs ys → HasGreater cmp xs m → HasGreater cmp ys m
HasGreater-same_bag cmp xs ys m same h = (h.0, Contains-permutation xs ys h.0 same h.1, h.2)

pub IsState-empty : {X : Type 0} {cmp : X → X → Ordering} (new : List X) → new ≡ [] → IsState cmp new
IsState-empty {cmp = cmp} new none = subst (IsState cmp) (sym none) (record { greatest = λ f e. cc })

pub IsState-same : {X : Type 0} {cmp : X → X → Ordering} (old new : List X) → IsState cmp old → IsSameState old new → IsState cmp new
IsState-same old new h same = record { greatest = λ f e. IsGreatest-same_bag old new f same.bag (h.greatest f (sym same.first ∙ e)) }

-- a state whose front is this greatest value of its bag
pub IsState-front : {X : Type 0} {cmp : X → X → Ordering} (new : List X) (m : X) → front new ≡ Some m → IsGreatest cmp new m → IsState cmp new
IsState-front {cmp = cmp} new m is h = record { greatest = λ f e. let same : m ≡ f = (cc) in subst (IsGreatest cmp new) same h }

module _ {X : Type 0} {cmp : X → X → Ordering} (total : IsTotalOrder cmp) where
  by_test : (old : List X) (x f : X) → IsGreatest cmp old f → (r : Ordering) → cmp x f ≡ r → IsGreatest cmp (x ∷ old) (if is_gt r then x else f)
  by_test old x f h Greater e = IsGreatest-overtaken total x f old h (λ over. let under = total.antisymm f x ∙ ap ordering_reverse e in cc)
  by_test old x f h r e = IsGreatest-stays x f old h (λ over. cc)

  -- the front with x is a greatest value of the bag with x
  pub front_with-greatest : (old : List X) (x : X) → IsState cmp old → IsGreatest cmp (x ∷ old) (front_with cmp x (front old))
  front_with-greatest [] x h = record { occurs = Contains-first x []; none_above = λ y in'. subst (λ v. cmp v x ≢ Greater) (alone x y in') (not_greater-self total x) }
  front_with-greatest (f ∷ old) x h = by_test (f ∷ old) x f (h.greatest f refl) (cmp x f) refl

module _ {X P : Type 0} {cmp : X → X → Ordering} (calls : P → X → Bool → P → Type 0) (total : IsTotalOrder cmp) where
  Ends-state : (last : X) (left : List X) (end : End) (popped : Option X) (new : List X) → Ends cmp last left end popped new → IsState cmp new
  Ends-state last left PutBack None new h = h.1
  Ends-state last left TakeOut (Some v) new h = h.2
  Ends-state last left end popped new h = absurd h

  pub Step-state : (old : List X) (command : Command X P) (reply : Reply X) (new : List X) → IsState cmp old → Step cmp calls old command reply new → IsState cmp new
  Step-state old (Push x) Pushed new h step = IsState-front new (front_with cmp x (front old)) step.1 (IsGreatest-same_bag (x ∷ old) new _ step.0 (front_with-greatest total old x h))
  Step-state old (PopIf p) (Popped None) new h step = elim step [ inl none ↦ IsState-empty new none.1 | inr told ↦ IsState-same old new h told.1 ]
  Step-state old (Loan acts end) (Loaned (Some told)) new h step = Ends-state step.2 step.3 end told.1 new step.7
  Step-state old command reply new h step = first_of (search, search (rules, IsState-same old new h, IsState-empty {cmp = cmp} new))

module _ {X : Type 0} where
  pub IsSameState-sym : (xs ys : List X) → IsSameState xs ys → IsSameState ys xs
  IsSameState-sym xs ys h = record { bag = IsPermutation-sym xs ys h.bag; first = sym h.first }

  IsSameState-trans : (xs ys zs : List X) → IsSameState xs ys → IsSameState ys zs → IsSameState xs zs
  IsSameState-trans xs ys zs h k = record { bag = IsPermutation-trans xs ys zs h.bag k.bag; first = k.first ∙ h.first }

  none : (xs ys : List X) → IsSameState xs ys → xs ≡ [] → ys ≡ []
  none xs ys h e = nil_from_length ys (omega (arith, length_permutation xs ys h.bag, ap length e))

  some : (xs ys : List X) → IsSameState xs ys → xs ≢ [] → ys ≢ []
  some xs ys h k e = k (none ys xs (IsSameState-sym xs ys h) e)

module _ {X P : Type 0} (cmp : X → X → Ordering) (calls : P → X → Bool → P → Type 0) (old old' new new' : List X) (from : IsSameState old old') (to : IsSameState new new') where
  kept : IsSameState old new → IsSameState old' new'
  kept h = IsSameState-trans old' old new' (IsSameState-sym old old' from) (IsSameState-trans old new new' h to)

  -- another listing of the bag at the start
  listed : (xs : List X) → IsSameBag old xs → IsSameBag old' xs
  listed xs h = IsPermutation-trans _ _ _ (IsPermutation-sym _ _ from.bag) h

  joined : (xs : List X) → IsJoined cmp old xs new → IsJoined cmp old' xs new'
  joined xs h = record {
    bag = IsPermutation-trans _ _ _ (IsPermutation-append_left xs old' old (IsPermutation-sym _ _ from.bag)) (IsPermutation-trans _ _ _ h.bag to.bag);
    state = IsState-same new new' h.state to;
    first = λ e. to.first ∙ h.first e ∙ sym from.first;
  }

  popped : (m : X) → Pops cmp old m new → Pops cmp old' m new'
  popped m h = (from.first ∙ h.0, listed _ (IsPermutation-trans _ _ _ h.1 (IsPermutation-cons m new new' to.bag)), IsState-same new new' h.2 to)

  pub in_turn : (k : ℕ) (taken : List X) → PopsInTurn cmp old k taken → PopsInTurn cmp old' k taken
  in_turn zero taken h = h
  in_turn (suc k) [] h = none old old' from h
  in_turn (suc k) (m ∷ taken) h = (h.0, (from.first ∙ h.1.0, listed _ h.1.1, h.1.2), h.2)

  asked : (p : P) (answer : Bool) → MayAnswer cmp calls old p answer → MayAnswer cmp calls old' p answer
  asked p answer h = (h.0, from.first ∙ h.1, h.2)

  ended : (last : X) (left : List X) (end : End) (given : Option X) → Ends cmp last left end given new → Ends cmp last left end given new'
  ended last left PutBack None h = (IsPermutation-trans _ _ _ h.0 to.bag, IsState-same new new' h.1 to, λ none. to.first ∙ h.2 none)
  ended last left TakeOut (Some v) h = (h.0, IsPermutation-trans _ _ _ h.1 to.bag, IsState-same new new' h.2 to)
  ended last left end given h = absurd h

  pub Step-same_state : (command : Command X P) (reply : Reply X) → Step cmp calls old command reply new → Step cmp calls old' command reply new'
  Step-same_state (Push x) Pushed h = (
    IsPermutation-trans _ _ _ (IsPermutation-cons x old' old (IsPermutation-sym _ _ from.bag)) (IsPermutation-trans _ _ _ h.0 to.bag),
    to.first ∙ h.1 ∙ ap (λ f. Some (front_with cmp x f)) (sym from.first),
  )
  Step-same_state (PopIf p) (Popped None) h = elim h [ inl empty ↦ inl (none old old' from empty.0, none new new' to empty.1) | inr told ↦ inr (asked p false told.0, kept told.1) ]
  Step-same_state (Retain p) Done h =
      let listing = IsSameState-trans old' old h.0 (IsSameState-sym old old' from) h.2 in
      (h.0, h.1, listing, h.3, IsPermutation-trans _ _ _ h.4 to.bag, IsState-same new new' h.5 to, λ all. to.first ∙ h.6 all ∙ sym from.first)
  Step-same_state (Extend xs) ExtendRefused h = (h.0, h.1, h.2, h.3, joined h.0 h.4)
  Step-same_state (Drain k) (Taken taken) h = ((h.0.0, IsSameState-trans old' old h.0.0 (IsSameState-sym old old' from) h.0.1, h.0.2), none new new' to h.1)
  Step-same_state (Loan acts end) (Loaned (Some told)) h = (h.0, h.1, h.2, h.3, from.first ∙ h.4, listed _ h.5, h.6, ended h.2 h.3 end told.1 h.7)
  Step-same_state Pop reply h = search (rules, popped, none old old' from, none new new' to)
  Step-same_state (PopIf p) (Popped (Some m)) h = (popped m h.0, h.1)
  Step-same_state (Ask p) reply h = search (rules, asked, kept, none old old' from, none new new' to)
  Step-same_state Len reply h = search (rules, kept, length_permutation old old' from.bag)
  Step-same_state (Extend xs) Done h = joined xs h
  Step-same_state (Append other) reply h = search (rules, joined, kept)
  Step-same_state Clear reply h = search (rules, none new new' to)
  Step-same_state (Drain k) Refused h = (some old old' from h.0, h.1, kept h.2)
  Step-same_state (DrainSorted k) reply h = search (rules, in_turn, none new new' to, kept, some old old' from)
  Step-same_state (Loan acts end) (Loaned None) h = (none old old' from h.0, none new new' to h.1)
  Step-same_state (Loan acts end) Refused h = (some old old' from h.0, h.1, kept h.2)
  Step-same_state command reply h = first_of (search, search (rules, kept))
