-- What one command makes of a heap, from the contract of the call that carries it out.
use Rattle.dary_heap.proofs.{◌≡◌, ℕ, ◌≤◌, ◌↔◌, Bool, List, [], ◌∷◌, ◌++◌, length, IsPermutation, refl, subst, arith, Option, Some, None, IfSome, IfNone, slice_get, sym, inl, inr, true}
use Rattle.dary_heap.proofs.{false, IsTotalOrder, Mut, Called, CalledAt, length_permutation, Ordering}
use Rattle.dary_heap.proofs.{RisesWithin, pop_bound, charge, Contents, IsHeapOrdered, Command, Reply, Pop, Ask, Popped, Asked, Step, IsServed, KeepsCapacity, IsFull, Serves, room}
use Rattle.dary_heap.proofs.{sure_after, front, suc, ◌-◌, if◌then◌else◌}
use Rattle.dary_heap.proofs.{min, ap, ◌∙◌, length-append, append-nil, mul-le-mul_right, Bor, items_where_true, IsSameBag, IsGreatest}
use Rattle.dary_heap.proofs.{mend_bound, IsExtended, first_no, depth, PopIf, Retain, Extend, Append, Done, IsJoined, nat_tests, ◌≢◌, le_refl, zero-le, true≢false, IsSameState}
use Rattle.dary_heap.proofs.{front_cases, ordered_state, same_state, none_ordered, read, IsPermutation-refl, IsSubBag, IsSubBag-front, IsSubBag-trans, IsSubBag-same, IsSubBag-tail}
use Rattle.dary_heap.proofs.{append_assoc, IsPermutation-append_left, IsSubBag-picked}
use Rattle.dary_heap.proofs.Popping.{none_first}
use Rattle.dary_heap.specs.Filtering.{IsRetained}
use Rattle.dary_heap.proofs.heap.Filtering.{few_picked}
use Rattle.dary_heap.proofs.sift.Written.{none_counted}

-- the items of a bag from which m was taken
pub rest_among : {X : Type 0} (xs ys : List X) (m : X) → IsPermutation xs (m ∷ ys) → IsSubBag ys (xs ++ [])
rest_among xs ys m h = rw append-nil (IsSubBag-trans ys (m ∷ ys) xs (IsSubBag-tail m ys) (IsSubBag-same (m ∷ ys) xs h))

-- what a drain is told that found no room for the items that it was to return
pub refused : {X : Type 0} (old : List X) (count len wanted : ℕ) → len ≡ length old → wanted ≡ min count len → (wanted ≡ 0 → false ≡ true) → (old ≢ []) × (count ≢ 0) × IsSameState old old
refused old count len wanted is least failed =
    let some = λ (none : wanted ≡ 0). true≢false (sym (failed none)) in
    ((λ e. some (omega (arith, ap length e))), (λ e. some (omega arith)), same_state _ _ refl)

module _ {X P : Type 0} {cmp : X → X → Ordering} {calls : P → X → Bool → P → Type 0} {D : ℕ} where
  -- a step that leaves the items as they were
  pub serves_kept : {old new : Contents X} {command : Command X P} {reply : Reply X} → new.items ≡ old.items → new.comparisons ≡ old.comparisons → IsHeapOrdered cmp D new.items →
      Step cmp calls old.items command reply old.items → IsServed (room old) command reply → sure_after (room old) command reply ≤ room new →
      KeepsCapacity (length old.items) old.capacity command reply (length old.items) new.capacity → IsFull (length old.items) old.capacity command reply (length old.items) →
      Serves cmp calls D old command reply new
  serves_kept {old} same uncounted ordered step served sure kept full = record {
    step = rw same step;
    charged = rw uncounted (none_counted _ _);
    served = served;
    sure = sure;
    ordered = ordered;
    among = rw same (IsSubBag-front old.items _);
    kept = rw same kept;
    full = rw same full;
  }

  -- a step that leaves all as it was
  pub serves_same : {old new : Contents X} {command : Command X P} {reply : Reply X} → new ≡ old → IsHeapOrdered cmp D new.items → Step cmp calls old.items command reply old.items →
      IsServed (room old) command reply → sure_after (room old) command reply ≤ room old → KeepsCapacity (length old.items) old.capacity command reply (length old.items) old.capacity →
      IsFull (length old.items) old.capacity command reply (length old.items) → Serves cmp calls D old command reply new
  serves_same same ordered step served sure kept full =
      serves_kept (ap (λ (it : Contents X). it.items) same) (ap (λ (it : Contents X). it.comparisons) same) ordered step served (rw same sure) (rw same kept) full

  -- a step that takes all items away
  pub serves_emptied : {old new : Contents X} {command : Command X P} {reply : Reply X} → new.items ≡ [] → Step cmp calls old.items command reply [] →
      RisesWithin old.comparisons new.comparisons (charge D (length old.items) command reply 0) → IsServed (room old) command reply → sure_after (room old) command reply ≤ 0 →
      KeepsCapacity (length old.items) old.capacity command reply 0 new.capacity → IsFull (length old.items) old.capacity command reply 0 → Serves cmp calls D old command reply new
  serves_emptied none step counted served sure kept full = record {
    step = rw none step;
    charged = rw none counted;
    served = served;
    sure = omega (arith, sure);
    ordered = none_ordered _ none;
    among = rw none (_, IsPermutation-refl _);
    kept = rw none kept;
    full = rw none full;
  }

  pub pops : IsTotalOrder cmp → (old new : Contents X) (r : Option X) → r ≡ slice_get old.items 0 → IfSome r (λ m. IsPermutation old.items (m ∷ new.items)) → IsHeapOrdered cmp D new.items →
      RisesWithin old.comparisons new.comparisons (pop_bound D (length old.items)) → new.capacity ≡ old.capacity → IfNone r (new ≡ old) → Serves cmp calls D old Pop (Popped r) new
  pops total old new None first bag ordered charged same unchanged = let none = none_first old.items first in serves_same unchanged ordered (none, none) tt (le_refl _) refl tt
  pops total old new (Some m) first bag ordered charged same none = record {
    step = (sym first, bag, ordered_state total D new.items ordered);
    charged = charged;
    served = tt;
    sure = omega (arith, length_permutation _ _ bag);
    ordered = ordered;
    among = rest_among old.items new.items m bag;
    kept = same;
    full = tt;
  }

-- taking in fewer items costs no more
mend_bound-fewer : (D n j k : ℕ) → j ≤ k → mend_bound D n j ≤ mend_bound D n k
mend_bound-fewer D n j k h = let less = mul-le-mul_right (depth D (n - 1)) h in grind (arith, nat_tests)

-- items that come in behind others, all of them or a beginning
came_behind : {X : Type 0} (xs ys all left new : List X) → all ≡ ys ++ left → IsSameBag (xs ++ ys) new → IsSubBag new (xs ++ (all ++ []))
came_behind xs ys all left new split bag =
    let whole = append_assoc xs ys left ∙ ap (λ l. xs ++ l) (sym split ∙ sym (append-nil all)) in
    (left, subst (λ l. IsSameBag l (new ++ left)) whole (IsPermutation-append_left left (xs ++ ys) new bag))

-- where all are picked, each answer was yes
none_removed : {X : Type 0} (bs : List Bool) (xs : List X) → length bs ≡ length xs → items_where_true bs xs ≡ xs → first_no bs ≡ length bs
none_removed [] xs all same = refl
none_removed (true ∷ bs) (x ∷ xs) all same = let rest : items_where_true bs xs ≡ xs = (cc) in ap suc (none_removed bs xs (omega arith) rest)
none_removed (false ∷ bs) (x ∷ xs) all same = absurd (omega (arith, ap length same, few_picked bs xs))
none_removed (b ∷ bs) [] all same = absurd (omega arith)

module _ {X P : Type 0} {cmp : X → X → Ordering} {calls : P → X → Bool → P → Type 0} {D : ℕ} (total : IsTotalOrder cmp) where
  pub retained : (old new : Contents X) (p : P) → IsRetained calls D p old new → IsHeapOrdered cmp D new.items → new.capacity ≡ old.capacity → Serves cmp calls D old (Retain p) Done new
  retained old new p h ordered same =
      let kept = items_where_true h.answers old.items in
      let n = length new.items in
      record {
        step = (
          old.items,
          kept,
          same_state _ _ refl,
          (h.answers, h.after, h.all, h.asked, refl),
          h.bag,
          ordered_state total D new.items ordered,
          λ all_kept. ap (λ (it : Contents X). front it.items) (h.unchanged (none_removed h.answers old.items h.all all_kept)),
        );
        charged = record { rises = h.counted.rises; within = omega (arith, h.counted.within, mend_bound-fewer D n (n - first_no h.answers) n (omega arith)) };
        served = tt;
        sure = zero-le;
        ordered = ordered;
        among = rw append-nil (IsSubBag-trans new.items kept old.items (IsSubBag-same new.items kept h.bag) (IsSubBag-picked h.answers old.items));
        kept = same;
        full = tt;
      }

  -- xs came in, which is the list or a beginning of it
  pub came_in : (old new : Contents X) (all xs left : List X) (reply : Reply X) → all ≡ xs ++ left → IsExtended cmp D old xs new →
      (IsJoined cmp old.items xs new.items → Step cmp calls old.items (Extend all) reply new.items) → IsFull {T = X} {P = P} (length old.items) old.capacity (Extend all) reply (length new.items) →
      Serves cmp calls D old (Extend all) reply new
  came_in old new all xs left reply split h step full = record {
    step = step (record { bag = h.bag; state = ordered_state total D new.items h.ordered; first = λ none. ap front (h.unchanged none) });
    charged = h.counted;
    served = tt;
    sure = zero-le;
    ordered = h.ordered;
    among = came_behind old.items xs all left new.items split h.bag;
    kept = (h.capacity, λ fits. h.kept (omega (arith, fits, h.len)));
    full = full;
  }

  pub appended : (old new : Contents X) (other : List X) → IsSameBag (old.items ++ other) new.items → (other ≡ [] → new.items ≡ old.items) → IsHeapOrdered cmp D new.items →
      RisesWithin old.comparisons new.comparisons (mend_bound D (length new.items) (min (length old.items) (length other))) →
      (length other ≤ length old.items → old.capacity ≤ new.capacity) → Serves cmp calls D old (Append other) Done new
  appended old new other bag same_items ordered counted grows =
      let more : length other ≡ length new.items - length old.items = omega (arith, length_permutation _ _ bag, length-append old.items other) in
      record {
        step = record { bag = bag; state = ordered_state total D new.items ordered; first = λ none. ap front (same_items none) };
        charged = subst (λ k. RisesWithin old.comparisons new.comparisons (mend_bound D (length new.items) (min (length old.items) k))) more counted;
        served = tt;
        sure = zero-le;
        ordered = ordered;
        among = came_behind old.items other other [] new.items (sym (append-nil other)) bag;
        kept = grows;
        full = tt;
      }

-- a predicate that is called once at most, on the front
module _ {X P : Type 0} (calls : Mut P (Bor X × Unit {0}) Bool) where
  -- p was asked about a reference to item
  abbrev pub Told : P → X → Bool → Type 0
  Told p item answer = (shown : Bor X) × calls.post p (shown, tt) answer × (shown.now ≡ item)

  module _ (once : (p : P) (a : Bor X × Unit {0}) (answer : Bool) → calls.post p a answer ↔ ((after : P) × Called calls p a answer after)) where
    pub told : (p : P) (item : X) (answer : Bool) → Told p item answer → (after : P) × CalledAt calls p item answer after
    told p item answer h = let called = (once p (h.0, tt) answer).0 h.1 in (called.0, record { shown = h.0; shows = h.2; called = called.1 })

    pub asks : {cmp : X → X → Ordering} {D : ℕ} (heap : Contents X) (p : P) (answer : Option Bool) → (heap.items ≡ [] → answer ≡ None) →
        ((item : X) → slice_get heap.items 0 ≡ Some item → (given : Bool) × Told p item given × (answer ≡ Some given)) → IsHeapOrdered cmp D heap.items →
        Serves cmp (CalledAt calls) D heap (Ask p) (Asked answer) heap
    asks heap p answer none asked ordered = elim (front_cases heap.items) [
      | inl gone ↦ rw (none gone) (serves_same refl ordered (gone, gone) tt (le_refl _) refl tt)
      | inr first ↦
          let given = asked first.0 first.1 in
          rw given.2 (serves_same refl ordered ((first.0, first.1, told p first.0 given.0 given.1), same_state _ _ refl) tt (le_refl _) refl tt)
    ]

    -- a pop that p decides
    answered : {cmp : X → X → Ordering} {D : ℕ} → IsTotalOrder cmp → (old new : Contents X) (p : P) (r : Option X) (f : X) (answer : Bool) → front old.items ≡ Some f → Told p f answer →
        r ≡ (if answer then Some f else None) → IfSome r (λ m. IsPermutation old.items (m ∷ new.items)) → IsHeapOrdered cmp D new.items →
        RisesWithin old.comparisons new.comparisons (pop_bound D (length old.items)) → new.capacity ≡ old.capacity → IfNone r (new ≡ old) →
        Serves cmp (CalledAt calls) D old (PopIf p) (Popped r) new
    answered total old new p r f false first asked is bag ordered charged same unchanged =
        rw is (serves_same (rw is at unchanged) ordered (inr ((f, first, told p f false asked), same_state _ _ refl)) tt (le_refl _) refl tt)
    answered total old new p r f true first asked is bag ordered charged same unchanged =
        let whole : IsPermutation old.items (f ∷ new.items) = rw is at bag in
        rw is record {
          step = ((first, whole, ordered_state total _ new.items ordered), told p f true asked);
          charged = charged;
          served = tt;
          sure = omega (arith, length_permutation _ _ whole);
          ordered = ordered;
          among = rest_among old.items new.items f whole;
          kept = same;
          full = tt;
        }

    pub pops_where : {cmp : X → X → Ordering} {D : ℕ} → IsTotalOrder cmp → (old new : Contents X) (p : P) (r : Option X) →
        ((item : X) → slice_get old.items 0 ≡ Some item → (answer : Bool) × Told p item answer × (r ≡ (if answer then Some item else None))) → IfSome r (IsGreatest cmp old.items) →
        IfSome r (λ m. IsPermutation old.items (m ∷ new.items)) → IsHeapOrdered cmp D new.items → RisesWithin old.comparisons new.comparisons (pop_bound D (length old.items)) →
        new.capacity ≡ old.capacity → IfNone r (new ≡ old) → Serves cmp (CalledAt calls) D old (PopIf p) (Popped r) new
    pops_where total old new p None asked greatest bag ordered charged same unchanged = elim (front_cases old.items) [
      | inl none ↦ serves_same unchanged ordered (inl (none, none)) tt (le_refl _) refl tt
      | inr first ↦ let a = asked first.0 first.1 in answered total old new p None first.0 a.0 first.1 a.1 a.2 bag ordered charged same unchanged
    ]
    pops_where total old new p (Some m) asked greatest bag ordered charged same unchanged =
        let first = read old.items 0 (omega (arith, greatest.occurs.1)) in
        let a = asked first.0 first.1 in
        answered total old new p (Some m) first.0 a.0 first.1 a.1 a.2 bag ordered charged same unchanged
