-- Without ties, questions and refusals, two runs from the same bag give the same replies and leave the same bag: their states are the same ones, and so both may be read from the first.
use Rattle.dary_heap.proofs.{◌≡◌, ◌≢◌, ℕ, zero, suc, Bool, true, false, List, [], ◌∷◌, ◌++◌, refl, sym, ap, ◌∙◌, subst, arith, Option, Some, None, AllByRecursion, IsTotalOrder, Ordering, Equal}
use Rattle.dary_heap.proofs.{Greater, Contains-append_left, Contains-append_right, IsPermutation-refl, IsPermutation-sym, IsPermutation-trans, IsPermutation-cons, length_permutation, items_in}
use Rattle.dary_heap.proofs.{written, IsSameBag, IsGreatest, IsGreatest-same_bag, Act, Write, Refresh, End, PutBack, TakeOut, Seen, Old, Changed, Command, Reply, Push, Pop, Len, Extend, Append}
use Rattle.dary_heap.proofs.{Reserve, Shrink, Clear, DrainSorted, Loan, Pushed, Popped, Size, Done, Taken, Loaned, Acts, Ends, Pops, PopsInTurn, Step, Steps, last_state, IsState, IsSameState, front}
use Rattle.dary_heap.proofs.{holds_none, Contains-first, IsAmong, IsAmong-cons, IsAmong-tail, IsAmong-append, IsAmong-same, same_state, IsAmong-sub_bag}
use Rattle.dary_heap.specs.TwoArities.{HasNoTies, IsSettled, IsUnrefused, SameRepliesAtTwoArities}
use Rattle.dary_heap.proofs.Cancelling.{IsPermutation-uncons}
use Rattle.dary_heap.proofs.run.SameStates.{Step-same_state, in_turn, IsSameState-sym, Step-state}
use Rattle.dary_heap.proofs.run.ServingLoan.{Acts-among, Acts-from}

module _ {X P : Type 0} {cmp : X → X → Ordering} (calls : P → X → Bool → P → Type 0) (total : IsTotalOrder cmp) (values : List X) (untied : HasNoTies cmp values) where
  tied : (x y : X) → cmp x y ≢ Greater → cmp y x ≢ Greater → cmp x y ≡ Equal
  tied x y h k = let turned = total.antisymm y x in grind arith

  -- without ties a bag has one greatest value
  one_greatest : (xs : List X) (x y : X) → IsAmong values xs → IsGreatest cmp xs x → IsGreatest cmp xs y → x ≡ y
  one_greatest xs x y among h k = untied.alike x y (among x h.occurs) (among y k.occurs) (tied x y (k.none_above x h.occurs) (h.none_above y k.occurs))

  -- and so one front
  one_state : (xs ys : List X) → IsSameBag xs ys → IsAmong values xs → IsState cmp xs → IsState cmp ys → IsSameState xs ys
  one_state [] [] same among h k = record { bag = same; first = refl }
  one_state (x ∷ xs) (y ∷ ys) same among h k =
      let greatest = IsGreatest-same_bag (y ∷ ys) (x ∷ xs) y (IsPermutation-sym _ _ same) (k.greatest y refl) in
      record { bag = same; first = ap Some (one_greatest (x ∷ xs) y x among greatest (h.greatest x refl)) }
  one_state xs ys same among h k = absurd (omega (arith, length_permutation _ _ same))

  one_front : (old : List X) (x y : X) → front old ≡ Some x → front old ≡ Some y → x ≡ y
  one_front old x y h k = let same : Some x ≡ Some y = sym h ∙ k in cc

  -- two listings of one bag
  same_bag : (xs us vs : List X) → IsSameBag xs us → IsSameBag xs vs → IsSameBag us vs
  same_bag xs us vs h k = IsPermutation-trans _ _ _ (IsPermutation-sym _ _ h) k

  -- what is left of a bag that the same value is taken out of
  same_rest : (xs us vs : List X) (x y : X) → x ≡ y → IsSameBag xs (x ∷ us) → IsSameBag xs (y ∷ vs) → IsSameBag us vs
  same_rest xs us vs x y e h k = IsPermutation-uncons x us vs (same_bag xs _ _ h (subst (λ v. IsSameBag xs (v ∷ vs)) (sym e) k))

  -- what two steps by the same command have in common
  record StepsAlike (reply reply' : Reply X) (new new' : List X) : Type 0 where
    replies : reply ≡ reply'
    bag : IsSameBag new new'
    among : IsAmong values new

  -- they leave two listings of this bag
  listed : (bag : List X) (reply reply' : Reply X) (new new' : List X) → reply ≡ reply' → IsAmong values bag → IsSameBag bag new → IsSameBag bag new' → StepsAlike reply reply' new new'
  listed bag reply reply' new new' same among h k = record { replies = same; bag = same_bag bag new new' h k; among = IsAmong-same values bag new h among }

  emptied : (reply reply' : Reply X) (new new' : List X) → reply ≡ reply' → new ≡ [] → new' ≡ [] → StepsAlike reply reply' new new'
  emptied reply reply' new new' same h k = rw (h, k) (record { replies = same; bag = IsPermutation-refl []; among = λ y in'. absurd (holds_none y in') })

  popped : (old : List X) (x y : X) (new new' : List X) → IsAmong values old → Pops cmp old x new → Pops cmp old y new' → StepsAlike (Popped (Some x)) (Popped (Some y)) new new'
  popped old x y new new' among h k =
      let same = one_front old x y h.0 k.0 in
      record { replies = ap (λ v. Popped (Some v)) same; bag = same_rest old new new' x y same h.1 k.1; among = IsAmong-tail values x new (IsAmong-same values old (x ∷ new) h.1 among) }

  popped_in_turn : (old : List X) (k : ℕ) (taken taken' : List X) → IsAmong values old → PopsInTurn cmp old k taken → PopsInTurn cmp old k taken' → taken ≡ taken'
  popped_in_turn old zero taken taken' among h k = h ∙ sym k
  popped_in_turn old (suc n) [] [] among h k = refl
  popped_in_turn old (suc n) [] (y ∷ taken') among h k = absurd (let none = ap front h in cc)
  popped_in_turn old (suc n) (x ∷ taken) [] among h k = absurd (let none = ap front k in cc)
  popped_in_turn old (suc n) (x ∷ taken) (y ∷ taken') among h k =
      let both = popped old x y h.0 k.0 among h.1 k.1 in
      let state = one_state h.0 k.0 both.bag both.among h.1.2 k.1.2 in
      let more = popped_in_turn h.0 n taken taken' both.among h.2 (in_turn cmp calls k.0 h.0 [] [] (IsSameState-sym h.0 k.0 state) (same_state _ _ refl) n taken' k.2) in
      let first = one_front old x y h.1.0 k.1.0 in
      cc

  -- what two loans of the same value see, hold and leave
  record LoansAlike (seen seen' : List (Seen X)) (last last' : X) (left left' : List X) : Type 0 where
    told : seen ≡ seen'
    held : last ≡ last'
    rest : IsSameBag left left'

  acted : (held : X) (rest : List X) (acts : List (Act X)) (seen seen' : List (Seen X)) (last last' : X) (left left' : List X) → IsAmong values (held ∷ rest) → IsAmong values (written acts) →
      Acts cmp held rest acts seen last left → Acts cmp held rest acts seen' last' left' → LoansAlike seen seen' last last' left left'
  acted held rest [] [] [] last last' left left' among wrote h k = record { told = refl; held = h.0 ∙ sym k.0; rest = same_bag rest left left' h.1 k.1 }
  acted held rest (Write x ∷ acts) (Old y ∷ seen) (Old y' ∷ seen') last last' left left' among wrote h k =
      let now = IsAmong-cons values x rest (wrote x (Contains-first x (written acts))) (IsAmong-tail values held rest among) in
      let more = acted x rest acts seen seen' last last' left left' now (IsAmong-tail values x (written acts) wrote) h.1 k.1 in
      record { told = cc (h.0, k.0, more.told); held = more.held; rest = more.rest }
  acted held rest (Refresh ∷ acts) (Changed true ∷ seen) (Changed true ∷ seen') last last' left left' among wrote h k =
      let next = one_greatest (held ∷ rest) h.1.0 k.1.0 among h.1.2 k.1.2 in
      let others = same_rest (held ∷ rest) h.1.1 k.1.1 h.1.0 k.1.0 next h.1.3 k.1.3 in
      let then = Acts-from cmp h.1.0 k.1.0 h.1.1 k.1.1 acts seen' last' left' next others k.1.4 in
      let more = acted h.1.0 h.1.1 acts seen seen' last last' left left' (IsAmong-same values (held ∷ rest) (h.1.0 ∷ h.1.1) h.1.3 among) wrote h.1.4 then in
      record { told = ap (λ s. Changed true ∷ s) more.told; held = more.held; rest = more.rest }
  acted held rest (Refresh ∷ acts) (Changed true ∷ seen) (Changed false ∷ seen') last last' left left' among wrote h k = absurd (k.0 h.0)
  acted held rest (Refresh ∷ acts) (Changed false ∷ seen) (Changed true ∷ seen') last last' left left' among wrote h k = absurd (h.0 k.0)
  acted held rest (Refresh ∷ acts) (Changed false ∷ seen) (Changed false ∷ seen') last last' left left' among wrote h k =
      let more = acted held rest acts seen seen' last last' left left' among wrote h.1 k.1 in
      record { told = ap (λ s. Changed false ∷ s) more.told; held = more.held; rest = more.rest }
  acted held rest acts seen seen' last last' left left' among wrote h k = absurd (assumption)

  ended : (last last' : X) (left left' : List X) (end : End) (given given' : Option X) (new new' : List X) → last ≡ last' → IsSameBag left left' → IsAmong values (last ∷ left) →
      Ends cmp last left end given new → Ends cmp last' left' end given' new' → (given ≡ given') × IsSameBag new new' × IsAmong values new
  ended last last' left left' PutBack None None new new' e same among h k =
      let whole = subst (λ v. IsSameBag (last ∷ left) (v ∷ left')) e (IsPermutation-cons last left left' same) in
      (refl, same_bag (last ∷ left) new new' h.0 (IsPermutation-trans _ _ _ whole k.0), IsAmong-same values (last ∷ left) new h.0 among)
  ended last last' left left' TakeOut (Some x) (Some y) new new' e same among h k =
      (ap Some (h.0 ∙ e ∙ sym k.0), same_bag left new new' h.1 (IsPermutation-trans _ _ _ same k.1), IsAmong-same values left new h.1 (IsAmong-tail values last left among))
  ended last last' left left' end given given' new new' e same among h k = absurd (assumption)

  loaned : (acts : List (Act X)) (end : End) (old : List X) (told told' : List (Seen X) × Option X) (new new' : List X) → IsAmong values old → IsAmong values (written acts) →
      Step cmp calls old (Loan acts end) (Loaned (Some told)) new → Step cmp calls old (Loan acts end) (Loaned (Some told')) new' → StepsAlike (Loaned (Some told)) (Loaned (Some told')) new new'
  loaned acts end old told told' new new' among wrote h k =
      let first = one_front old h.0 k.0 h.4 k.4 in
      let rest = same_rest old h.1 k.1 h.0 k.0 first h.5 k.5 in
      let here = Acts-from cmp h.0 k.0 h.1 k.1 acts told'.0 k.2 k.3 first rest k.6 in
      let begun = IsAmong-same values old (h.0 ∷ h.1) h.5 among in
      let during = acted h.0 h.1 acts told.0 told'.0 h.2 k.2 h.3 k.3 begun wrote h.6 here in
      let left_among = IsAmong-sub_bag values (h.2 ∷ h.3) ((h.0 ∷ h.1) ++ written acts) (Acts-among cmp h.0 h.1 acts told.0 h.2 h.3 h.6) (IsAmong-append values (h.0 ∷ h.1) (written acts) begun wrote) in
      let after = ended h.2 k.2 h.3 k.3 end told.1 told'.1 new new' during.held during.rest left_among h.7 k.7 in
      record { replies = ap (λ s. Loaned (Some (s, told.1))) during.told ∙ ap (λ p. Loaned (Some (told'.0, p))) after.0; bag = after.1; among = after.2 }

  steps_alike : (command : Command X P) (commands : List (Command X P)) (old : List X) (reply reply' : Reply X) (new new' : List X) → IsSettled command →
      IsAmong values (items_in (command ∷ commands)) → IsAmong values old → IsUnrefused reply → IsUnrefused reply' → Step cmp calls old command reply new → Step cmp calls old command reply' new' →
      StepsAlike reply reply' new new'
  steps_alike (Push x) commands old Pushed Pushed new new' settled brought among fine fine' h k =
      listed (x ∷ old) Pushed Pushed new new' refl (IsAmong-cons values x old (brought x (Contains-first x (items_in commands))) among) h.0 k.0
  steps_alike Pop commands old (Popped None) (Popped None) new new' settled brought among fine fine' h k = emptied _ _ new new' refl h.1 k.1
  steps_alike Pop commands old (Popped None) (Popped (Some y)) new new' settled brought among fine fine' h k = absurd (let none = ap front h.0 in cc)
  steps_alike Pop commands old (Popped (Some x)) (Popped None) new new' settled brought among fine fine' h k = absurd (let none = ap front k.0 in cc)
  steps_alike Pop commands old (Popped (Some x)) (Popped (Some y)) new new' settled brought among fine fine' h k = popped old x y new new' among h k
  steps_alike Len commands old (Size n) (Size m) new new' settled brought among fine fine' h k = listed old (Size n) (Size m) new new' (ap Size (h.0 ∙ sym k.0)) among h.1.bag k.1.bag
  steps_alike (Extend xs) commands old Done Done new new' settled brought among fine fine' h k =
      listed (old ++ xs) Done Done new new' refl (IsAmong-append values old xs among (λ y in'. brought y (Contains-append_left xs (items_in commands) y in'))) h.bag k.bag
  steps_alike (Reserve n) commands old Done Done new new' settled brought among fine fine' h k = listed old Done Done new new' refl among h.bag k.bag
  steps_alike (Shrink n) commands old Done Done new new' settled brought among fine fine' h k = listed old Done Done new new' refl among h.bag k.bag
  steps_alike Clear commands old Done Done new new' settled brought among fine fine' h k = emptied Done Done new new' refl h k
  steps_alike (DrainSorted n) commands old (Taken taken) (Taken taken') new new' settled brought among fine fine' h k =
      emptied _ _ new new' (ap Taken (popped_in_turn old n taken taken' among h.0 k.0)) h.1 k.1
  steps_alike (Loan acts end) commands old (Loaned None) (Loaned None) new new' settled brought among fine fine' h k = emptied _ _ new new' refl h.1 k.1
  steps_alike (Loan acts end) commands old (Loaned None) (Loaned (Some told)) new new' settled brought among fine fine' h k = absurd (let none = ap front h.0 in let some = k.4 in cc)
  steps_alike (Loan acts end) commands old (Loaned (Some told)) (Loaned None) new new' settled brought among fine fine' h k = absurd (let none = ap front k.0 in let some = h.4 in cc)
  steps_alike (Loan acts end) commands old (Loaned (Some told)) (Loaned (Some told')) new new' settled brought among fine fine' h k =
      loaned acts end old told told' new new' among (λ y in'. brought y (Contains-append_left (written acts) (items_in commands) y in')) h k
  steps_alike command commands old reply reply' new new' settled brought among fine fine' h k = absurd (assumption)

  -- what the later commands bring is brought by all of them
  brought_later : (command : Command X P) (commands : List (Command X P)) → IsAmong values (items_in (command ∷ commands)) → IsAmong values (items_in commands)
  brought_later (Push x) commands h = IsAmong-tail values x (items_in commands) h
  brought_later (Extend xs) commands h = λ y in'. h y (Contains-append_right xs (items_in commands) y in')
  brought_later (Append other) commands h = λ y in'. h y (Contains-append_right other (items_in commands) y in')
  brought_later (Loan acts end) commands h = λ y in'. h y (Contains-append_right (written acts) (items_in commands) y in')
  brought_later command commands h = h

  runs_alike : (commands : List (Command X P)) (old old' : List X) (replies replies' : List (Reply X)) (states states' : List (List X)) → AllByRecursion IsSettled commands →
      IsAmong values (items_in commands) → IsAmong values old → IsState cmp old → IsSameState old old' → AllByRecursion IsUnrefused replies → AllByRecursion IsUnrefused replies' →
      Steps cmp calls old commands replies states → Steps cmp calls old' commands replies' states' → (replies ≡ replies') × IsSameBag (last_state old states) (last_state old' states')
  runs_alike [] old old' [] [] [] [] settled brought among begun from fine fine' run run' = (refl, from.bag)
  runs_alike (command ∷ commands) old old' (reply ∷ replies) (reply' ∷ replies') (new ∷ states) (new' ∷ states') settled brought among begun from fine fine' run run' =
      let step = Step-same_state cmp calls old' old new' new' (IsSameState-sym old old' from) (same_state _ _ refl) command reply' run'.0 in
      let here = steps_alike command commands old reply reply' new new' settled.0 brought among fine.0 fine'.0 run.0 step in
      let state = Step-state calls total old command reply new begun run.0 in
      let to = one_state new new' here.bag here.among state (Step-state calls total old command reply' new' begun step) in
      let more = runs_alike commands new new' replies replies' states states' settled.1 (brought_later command commands brought) here.among state to fine.1 fine'.1 run.1 run'.1 in
      (ap (λ r. r ∷ replies) here.replies ∙ ap (λ rs. reply' ∷ rs) more.0, more.1)
  runs_alike commands old old' replies replies' states states' settled brought among begun from fine fine' run run' = absurd (assumption)

module _ {X P : Type 0} {cmp : X → X → Ordering} (calls : P → X → Bool → P → Type 0) (total : IsTotalOrder cmp) where
  pub same_replies : SameRepliesAtTwoArities cmp calls
  same_replies commands start start' replies replies' end end' settled same untied run run' =
      let values = start ++ items_in commands in
      let among : IsAmong values start = λ y in'. Contains-append_left start (items_in commands) y in' in
      let brought : IsAmong values (items_in commands) = λ y in'. Contains-append_right start (items_in commands) y in' in
      let from = one_state calls total values untied start start' same among run.begins run'.begins in
      let both =
      runs_alike calls total values untied commands start start' replies replies' run.states run'.states settled brought among run.begins from run.unrefused run'.unrefused run.run run'.run in
      (both.0, subst (λ l. IsSameBag l end') run.ends (subst (IsSameBag (last_state start run.states)) run'.ends both.1))
