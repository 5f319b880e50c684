-- What a loan makes of a heap, from the contracts of its calls.
use Rattle.dary_heap.proofs.{◌≡◌, ◌↔◌, ℕ, ◌+◌, ◌-◌, ◌*◌, ◌<◌, ◌≤◌, Bool, true, false, List, [], ◌∷◌, ◌++◌, length, refl, sym, ap, ◌∙◌, subst, arith, Option, Some, None, IsTrue, slice_set}
use Rattle.dary_heap.proofs.{IsPermutation-refl, IsPermutation-sym, IsPermutation-trans, IsPermutation-cons, length_permutation, OnFalse, IsTotalOrder}
use Rattle.dary_heap.proofs.{Ordering, written, IsSameBag, IsGreatest-same_bag, RisesWithin, refreshes, pop_bound, sink_bound, Contents, IsHeapOrdered, IsExceeded, Act, Write, Refresh, End, PutBack}
use Rattle.dary_heap.proofs.{TakeOut, Seen, Old, Changed, Loan, Loaned, Acts, Ends, Serves, IsState, front, length-set, zero-le}
use Rattle.dary_heap.proofs.{times_depth-later, ordered_state, IsSubBag, IsSubBag-same, IsSubBag-trans, IsSubBag-tail, append-nil, IsPermutation-middle, IsPermutation-append_left}
use Rattle.dary_heap.proofs.Cancelling.{IsPermutation-uncons}
use Rattle.dary_heap.proofs.run.SameStates.{HasGreater-same_bag}

module _ {X : Type 0} (cmp : X → X → Ordering) where
  -- of the rest the acts read its bag alone
  Acts-same : (held : X) (rest left : List X) (acts : List (Act X)) (seen : List (Seen X)) (last : X) (end : List X) → IsSameBag rest left → Acts cmp held left acts seen last end →
      Acts cmp held rest acts seen last end
  Acts-same held rest left [] [] last end same h = (h.0, IsPermutation-trans _ _ _ same h.1)
  Acts-same held rest left (Write x ∷ acts) (Old y ∷ seen) last end same h = (h.0, Acts-same x rest left acts seen last end same h.1)
  Acts-same held rest left (Refresh ∷ acts) (Changed true ∷ seen) last end same h =
      let back = IsPermutation-sym _ _ same in
      let greatest = IsGreatest-same_bag (held ∷ left) (held ∷ rest) h.1.0 (IsPermutation-cons held left rest back) h.1.2 in
      (HasGreater-same_bag cmp left rest held back h.0, (h.1.0, h.1.1, greatest, IsPermutation-trans _ _ _ (IsPermutation-cons held rest left same) h.1.3, h.1.4))
  Acts-same held rest left (Refresh ∷ acts) (Changed false ∷ seen) last end same h =
      (λ over. h.0 (HasGreater-same_bag cmp rest left held same over), Acts-same held rest left acts seen last end same h.1)
  Acts-same held rest left acts seen last end same h = absurd h

  -- and of what is held its value
  pub Acts-from : (held held' : X) (rest rest' : List X) (acts : List (Act X)) (seen : List (Seen X)) (last : X) (left : List X) → held ≡ held' → IsSameBag rest rest' →
      Acts cmp held' rest' acts seen last left → Acts cmp held rest acts seen last left
  Acts-from held held' rest rest' acts seen last left e same h = Acts-same held rest rest' acts seen last left same (subst (λ v. Acts cmp v rest' acts seen last left) (sym e) h)

  -- one act more
  Acts-more : (held : X) (rest : List X) (acts : List (Act X)) (seen : List (Seen X)) (mid : X) (left : List X) (act : Act X) (sight : Seen X) (last : X) (end : List X) →
      Acts cmp held rest acts seen mid left → Acts cmp mid left (act ∷ []) (sight ∷ []) last end → Acts cmp held rest (acts ++ act ∷ []) (seen ++ sight ∷ []) last end
  Acts-more held rest [] [] mid left act sight last end h more = Acts-from held mid rest left (act ∷ []) (sight ∷ []) last end (sym h.0) h.1 more
  Acts-more held rest (Write x ∷ acts) (Old y ∷ seen) mid left act sight last end h more = (h.0, Acts-more x rest acts seen mid left act sight last end h.1 more)
  Acts-more held rest (Refresh ∷ acts) (Changed true ∷ seen) mid left act sight last end h more =
      (h.0, (h.1.0, h.1.1, h.1.2, h.1.3, Acts-more h.1.0 h.1.1 acts seen mid left act sight last end h.1.4 more))
  Acts-more held rest (Refresh ∷ acts) (Changed false ∷ seen) mid left act sight last end h more = (h.0, Acts-more held rest acts seen mid left act sight last end h.1 more)
  Acts-more held rest acts seen mid left act sight last end h more = absurd h

  -- what is held and what is left were there or were written
  pub Acts-among : (held : X) (rest : List X) (acts : List (Act X)) (seen : List (Seen X)) (last : X) (left : List X) → Acts cmp held rest acts seen last left →
      IsSubBag (last ∷ left) ((held ∷ rest) ++ written acts)
  Acts-among held rest [] [] last left h =
      rw (append-nil, h.0) (IsSubBag-same (held ∷ left) (held ∷ rest) (IsPermutation-cons held rest left h.1))
  Acts-among held rest (Write x ∷ acts) (Old y ∷ seen) last left h =
      let overwritten = IsPermutation-cons held (rest ++ x ∷ written acts) (x ∷ (rest ++ written acts)) (IsPermutation-middle rest x (written acts)) in
      let now = x ∷ (rest ++ written acts) in
      let all = held ∷ (rest ++ x ∷ written acts) in
      let others = IsSubBag-trans now (held ∷ now) all (IsSubBag-tail held now) (IsSubBag-same (held ∷ now) all overwritten) in
      IsSubBag-trans (last ∷ left) now all (Acts-among x rest acts seen last left h.1) others
  Acts-among held rest (Refresh ∷ acts) (Changed true ∷ seen) last left h =
      let same = IsPermutation-append_left (written acts) (held ∷ rest) (h.1.0 ∷ h.1.1) h.1.3 in
      let all = (held ∷ rest) ++ written acts in
      let now = (h.1.0 ∷ h.1.1) ++ written acts in
      IsSubBag-trans (last ∷ left) now all (Acts-among h.1.0 h.1.1 acts seen last left h.1.4) (IsSubBag-same now all same)
  Acts-among held rest (Refresh ∷ acts) (Changed false ∷ seen) last left h = Acts-among held rest acts seen last left h.1
  Acts-among held rest acts seen last left h = absurd h

refreshes-append : {X : Type 0} (acts more : List (Act X)) → refreshes (acts ++ more) ≡ refreshes acts + refreshes more
refreshes-append [] more = omega arith
refreshes-append (Write y ∷ acts) more = refreshes-append acts more
refreshes-append (Refresh ∷ acts) more = omega (arith, refreshes-append acts more)

parted : {X : Type 0} (xs : List X) → 0 < length xs → (x : X) × (rest : List X) × (xs ≡ x ∷ rest)
parted [] some = absurd (omega arith)
parted (x ∷ xs) some = (x, xs, refl)

module _ {X : Type 0} (cmp : X → X → Ordering) (D : ℕ) where
  -- the acts on a loan of the first item of a heap, what they saw, and what the loan has now
  pub record IsHeld (begun now : Contents X) (acts : List (Act X)) (seen : List (Seen X)) : Type 0 where
    pub first : X
    pub rest : List X
    pub last : X
    pub left : List X
    pub from : begun.items ≡ first ∷ rest
    pub acted : Acts cmp first rest acts seen last left
    pub to : now.items ≡ last ∷ left
    pub len : length now.items ≡ length begun.items
    pub counted : RisesWithin begun.comparisons now.comparisons (refreshes acts * sink_bound D (length begun.items))
    pub capacity : now.capacity ≡ begun.capacity

module _ {X : Type 0} {cmp : X → X → Ordering} {D : ℕ} where
  pub IsHeld-begins : (heap : Contents X) → 0 < length heap.items → IsHeld cmp D heap heap [] []
  IsHeld-begins heap some =
      let w = parted heap.items some in
      record {
        first = w.0;
        rest = w.1;
        last = w.0;
        left = w.1;
        from = w.2;
        acted = (refl, IsPermutation-refl w.1);
        to = w.2;
        len = refl;
        counted =
            record { rises = omega arith; within = omega arith };
        capacity = refl;
      }

  module _ {begun now : Contents X} {acts : List (Act X)} {seen : List (Seen X)} (h : IsHeld cmp D begun now acts seen) (new : Contents X) where
    -- one act more
    act_more : (act : Act X) (sight : Seen X) (last : X) (left : List X) → Acts cmp h.last h.left (act ∷ []) (sight ∷ []) last left → new.items ≡ last ∷ left → length new.items ≡ length now.items →
        RisesWithin now.comparisons new.comparisons (refreshes (act ∷ []) * sink_bound D (length now.items)) → new.capacity ≡ now.capacity →
        IsHeld cmp D begun new (acts ++ act ∷ []) (seen ++ sight ∷ [])
    act_more act sight last left more is len counted same = record {
      first = h.first;
      rest = h.rest;
      last = last;
      left = left;
      from = h.from;
      acted = Acts-more cmp h.first h.rest acts seen h.last h.left act sight last left h.acted more;
      to = is;
      len = len ∙ h.len;
      counted = rw refreshes-append (record { rises = omega (arith, h.counted.rises, counted.rises); within = omega (arith, h.counted.within, rw h.len at counted.within) });
      capacity = same ∙ h.capacity;
    }

    pub IsHeld-write : (x y : X) → front now.items ≡ Some y → new.items ≡ slice_set now.items 0 x → new.comparisons ≡ now.comparisons →
        new.capacity ≡ now.capacity → IsHeld cmp D begun new (acts ++ Write x ∷ []) (seen ++ Old y ∷ [])
    IsHeld-write x y is written same room =
        let first : Some h.last ≡ Some y = sym (ap front h.to) ∙ is in
        act_more (Write x) (Old y) x h.left ((cc), (refl, IsPermutation-refl h.left)) (written ∙ ap (λ xs. slice_set xs 0 x) h.to) (ap length written ∙ length-set now.items 0 x)
        (record { rises = omega (arith, same); within = omega (arith, same) }) room

    pub IsHeld-refresh : (moved : Bool) → (IsTrue moved ↔ IsExceeded cmp now.items) → IsSameBag now.items new.items → IsState cmp new.items → OnFalse moved (new.items ≡ now.items) →
        RisesWithin now.comparisons new.comparisons (sink_bound D (length now.items)) → new.capacity ≡ now.capacity →
        IsHeld cmp D begun new (acts ++ Refresh ∷ []) (seen ++ Changed moved ∷ [])
    IsHeld-refresh true says bag state still counted room =
        let len = length_permutation now.items new.items bag in
        let w = parted new.items (omega (arith, len, ap length h.to)) in
        let greatest = IsGreatest-same_bag new.items (h.last ∷ h.left) w.0 (rw h.to at (IsPermutation-sym now.items new.items bag)) (state.greatest w.0 (ap front w.2)) in
        act_more Refresh (Changed true) w.0 w.1 (rw h.to at (says.0 refl), (w.0, w.1, greatest, rw (h.to, w.2) at bag, (refl, IsPermutation-refl w.1))) w.2 len
        (record { rises = counted.rises; within = omega (arith, counted.within) }) room
    IsHeld-refresh false says bag state still counted room =
        let none : IsExceeded cmp (h.last ∷ h.left) → ⊥ = λ over. (let said : false ≡ true = says.1 (rw h.to over) in cc) in
        act_more Refresh (Changed false) h.last h.left (none, (refl, IsPermutation-refl h.left)) (still ∙ h.to) (ap length still)
        (record { rises = counted.rises; within = omega (arith, counted.within) }) room

  -- what the heap and the acts held
  brought : {begun now : Contents X} {acts : List (Act X)} {seen : List (Seen X)} → IsHeld cmp D begun now acts seen → IsSubBag now.items (begun.items ++ (written acts ++ []))
  brought {begun} {now} {acts} {seen} h = rw (h.to, h.from, append-nil) (Acts-among cmp h.first h.rest acts seen h.last h.left h.acted)

module _ {X P : Type 0} {cmp : X → X → Ordering} {calls : P → X → Bool → P → Type 0} {D : ℕ} where
  -- from the heap at the start through the loan at its end to what that leaves behind its reference, which is what the heap is then
  module _ {old mid : Contents X} {acts : List (Act X)} {seen : List (Seen X)} (h : IsHeld cmp D old mid acts seen) (end new : Contents X) (back : new ≡ end)
      (ordered : IsHeapOrdered cmp D end.items) (same : end.capacity ≡ mid.capacity) where
    ended : (kind : End) (given : Option X) (last_cost : ℕ) → RisesWithin mid.comparisons end.comparisons last_cost → last_cost ≤ sink_bound D (length mid.items) → IsSubBag end.items mid.items →
        Ends cmp h.last h.left kind given end.items → Serves cmp calls D old (Loan acts kind) (Loaned (Some (seen, given))) new
    ended kind given last_cost counted few among ends = rw back record {
      step = (h.first, h.rest, h.last, h.left, ap front h.from, rw (← h.from) (IsPermutation-refl old.items), h.acted, ends);
      charged = record { rises = omega (arith, h.counted.rises, counted.rises); within = omega (arith, h.counted.within, counted.within, few, ap (sink_bound D) h.len) };
      served = tt;
      sure = zero-le;
      ordered = ordered;
      among = IsSubBag-trans end.items mid.items _ among (brought h);
      kept = same ∙ h.capacity;
      full = tt;
    }

    pub put_back : IsTotalOrder cmp → RisesWithin mid.comparisons end.comparisons (sink_bound D (length mid.items)) → IsSameBag mid.items end.items →
        ((IsExceeded cmp mid.items → ⊥) → front end.items ≡ front mid.items) → Serves cmp calls D old (Loan acts PutBack) (Loaned (Some (seen, None))) new
    put_back total counted bag first = ended PutBack None _ counted (omega arith) (IsSubBag-same end.items mid.items bag) (
      rw h.to at bag,
      ordered_state total D end.items ordered,
      λ none. first (λ over. none (rw h.to at over)) ∙ ap front h.to,
    )

    pub taken_out : IsTotalOrder cmp → (item : X) → RisesWithin mid.comparisons end.comparisons (pop_bound D (length mid.items)) → front mid.items ≡ Some item →
        IsSameBag mid.items (item ∷ end.items) → Serves cmp calls D old (Loan acts TakeOut) (Loaned (Some (seen, Some item))) new
    taken_out total item counted first bag =
        let held : Some h.last ≡ Some item = sym (ap front h.to) ∙ first in
        let is : item ≡ h.last = (cc) in
        let whole : IsSameBag (h.last ∷ h.left) (h.last ∷ end.items) = rw (h.to, is) at bag in
        let few = times_depth-later D (length mid.items - 2) (length mid.items - 1) (omega arith) in
        let among = IsSubBag-trans end.items (item ∷ end.items) mid.items (IsSubBag-tail item end.items) (IsSubBag-same (item ∷ end.items) mid.items bag) in
        ended TakeOut (Some item) _ counted few among (is, IsPermutation-uncons h.last h.left end.items whole, ordered_state total D end.items ordered)
