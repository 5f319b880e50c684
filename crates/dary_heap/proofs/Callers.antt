-- The laws that proofs of callers need, found by `rt lemma`: what a list holds, bags, greatest items, pops in a row, heaps of `Reverse`, and comparisons.
use Rattle.dary_heap.proofs.{set, slice_get-set_other, IsDistinct, IsDistinct-IsPermutation, IsDistinct-head, All-from_recursion, IsHeapOrderedButAt, IsAtMost-by, IsAtMost-over, sum_by, sum_by-set}
use Rattle.dary_heap.proofs.{sum_by-IsPermutation, AllByRecursion, Command, Reply, Runs, ◌≡◌, ◌≢◌, ℕ}
use Rattle.dary_heap.proofs.{◌+◌, ◌<◌, ◌≤◌, min, Bool, true, false, if◌then◌else◌, List, [], ◌∷◌, ◌++◌, length, map, slice_set, All, Contains, Option, Some, None, Result, Ok, Err, Vec, arith, refl}
use Rattle.dary_heap.proofs.{sym, ap, ◌∙◌, subst, inl, inr, length-append, IsTotalOrder, Yields, nat_cmp, is_lt, ordering_reverse, ordering_then, Global, Ordering, Less, Greater, cases_lt}
use Rattle.dary_heap.proofs.{All-contains, All-contains_itself, All-weaker, Contains-append_cases, length_permutation, IsPermutation-refl, IsPermutation-sym, IsPermutation-trans, IsPermutation-cons}
use Rattle.dary_heap.proofs.{IsPermutation-middle, IsPermutation-append_left, IsSameBag, IsGreatest, Contents, IsPop, IsDescending, IsGivenDescending, front, zero, suc, get_or, slice_get}
use Rattle.dary_heap.proofs.{get_or_from_slice_get, slice_get_within, parent, IsHeapOrdered, alone, not_less, read}
use Rattle.std.proofs.Common.{IfOk, OnErr, OnOk, is_ok}
use Rattle.std.specs.Iterator.Adapters.{take_count, take_source, take_steps}
use Rattle.std.specs.List.{HoldsAt, filter, items_where_true}
use Rattle.std.specs.Ordering.{flip_args, is_some_and}
use Rattle.std.specs.declared.alloc.AllocError.{AllocError}
use Rattle.std.specs.declared.cmp.Reverse.{Reverse}
use Rattle.std.specs.declared.iter.Take.{Take}
use Rattle.std.proofs.lemmas.Cmp.{ranked, by_ranked}
use Rattle.std.proofs.lemmas.Iterator.{IsCollectResult}
use Rattle.std.proofs.lemmas.Fn.{filter_same}
use Rattle.std.proofs.lemmas.List.Elements.{All-cons, All-head, All-map, All-nil, All-tail}
use Rattle.std.proofs.lemmas.List.Sorted.{All-permutation, IsPermutation-map, IsPermutation-append_right}
pub use Rattle.std.proofs.lemmas.List.Sorted.{IsNonDecreasingBy-push, IsPermutation-pop_more, sum_by_popped, sum_by_pushed}
use Rattle.std.proofs.lemmas.Iterator.Adapters.{YieldsAtMost}
use Rattle.std.specs.BinaryHeap.{IsHeap}
use Rattle.dary_heap.specs.TwoArities.{IsUnrefused, RunsUnrefused}
use Rattle.dary_heap.specs.Extending.{IsRefusedAfter}
use Rattle.dary_heap.specs.Filtering.{IsRetained}
pub use Rattle.dary_heap.proofs.Bags.{IsGreatest-stays, IsGreatest-overtaken, front_cases, Contains-cases, Contains-first, Contains-later, holds_none, has_none, came_first, came_later, came_cases}
pub use Rattle.dary_heap.proofs.Bags.{upper_bound, upper_bound_left}
pub use Rattle.dary_heap.proofs.Order.{not_greater-self, not_greater-trans}
pub use Rattle.dary_heap.proofs.Cancelling.{IsPermutation-flat_map, IsPermutation-uncons}
use Rattle.dary_heap.proofs.Depth.{parent-below}
use Rattle.dary_heap.proofs.sift.Parts.{still_but_at}
pub use Rattle.dary_heap.proofs.Popping.{none_first, pops_list, pops_descend, pops_given}

lt_no : (r : Ordering) → is_lt r ≡ false → ordering_reverse r ≢ Greater
lt_no r h e = grind arith

-- ---- what a list holds

pub Contains-map : {X Y : Type 0} (f : X → Y) (xs : List X) (x : X) → Contains xs x → Contains (map f xs) (f x)
Contains-map f [] x h = absurd (holds_none x h)
Contains-map {X} {Y} f (y ∷ ys) x h = elim (Contains-cases y ys x h) [
  | inl is ↦ subst (λ (z : X). Contains (f y ∷ map f ys) (f z)) is (Contains-first (f y) (map f ys))
  | inr later ↦ Contains-later (f y) (map f ys) (f x) (Contains-map f ys x later)
]

-- what holds of each item of a list holds of what it is mapped to
pub All-mapped : {X Y : Type 0} (P : Y → Type 0) (f : X → Y) (xs : List X) → ((x : X) → Contains xs x → P (f x)) → All P (map f xs)
All-mapped P f xs h = All-map P f xs (All-weaker (Contains xs) (λ x. P (f x)) h xs (All-contains_itself xs))

-- ---- bags

-- a write of x through a loan, whose item was m: x came to the bag, and m went
pub IsSameBag-written : {X : Type 0} (items new : List X) (m x : X) → front items ≡ Some m → IsSameBag (slice_set items 0 x) new → IsSameBag (x ∷ items) (m ∷ new)
IsSameBag-written [] new m x first same = cc
IsSameBag-written {X} (top ∷ rest) new m x first same =
    let is : top ≡ m = cc in
    subst (λ (v : X). IsSameBag (x ∷ top ∷ rest) (v ∷ new)) is (IsPermutation-trans _ _ _ (IsPermutation-middle (x ∷ []) top rest) (IsPermutation-cons top (x ∷ rest) new same))

-- the measure of a loop that writes less to the item on loan and refreshes the loan: the sum of the numbers falls
pub sum_falls : (items after : List ℕ) (held less : ℕ) → front items ≡ Some held → less < held → IsSameBag (slice_set items 0 less) after → sum_by (λ x. x) after < sum_by (λ x. x) items
sum_falls [] after held less first below same = cc
sum_falls (top ∷ rest) after held less first below same =
    let is : top ≡ held = cc in
    let total = sum_by-IsPermutation (λ x. x) (less ∷ rest) after same in
    omega (arith, total, sum_by-set (λ x. x) (top ∷ rest) 0 less top (omega arith), below, is)

-- an item that was popped from one heap and pushed onto another
pub IsSameBag-moved : {X : Type 0} (x : X) (from to left new : List X) → IsSameBag from (x ∷ left) → IsSameBag (x ∷ to) new → IsSameBag (from ++ to) (left ++ new)
IsSameBag-moved x from to left new went came =
    IsPermutation-trans _ _ _
    (IsPermutation-append_left to from (x ∷ left) went)
    (IsPermutation-trans _ _ _
    (IsPermutation-sym (left ++ x ∷ to) (x ∷ (left ++ to)) (IsPermutation-middle left x to))
    (IsPermutation-append_right left (x ∷ to) new came))

-- ---- what each item has, by the clause `bag` of a call

module _ {X : Type 0} (P : X → Type 0) where
  -- once an item came that has it
  pub All-pushed : (x : X) (old new : List X) → P x → All P old → IsSameBag (x ∷ old) new → All P new
  All-pushed x old new has all bag = All-permutation P (x ∷ old) new bag (All-cons P x old has all)

  -- once an item went, which has it too
  pub All-popped : (x : X) (old new : List X) → All P old → IsSameBag old (x ∷ new) → P x × All P new
  All-popped x old new all bag = let had = All-permutation P old (x ∷ new) bag all in (All-head P x new had, All-tail P x new had)

  -- once an item that has it came for another, as by `push_pop` and `replace_at`
  pub All-replaced : (x out : X) (old new : List X) → P x → All P old → IsSameBag (x ∷ old) (out ∷ new) → P out × All P new
  All-replaced x out old new has all bag = All-popped out (x ∷ old) new (All-cons P x old has all) bag

  -- after a push or a `replace`, also one that returned the item, by its clause `unchanged`
  pub All-push : {A E : Type 0} (r : Result A E) (x : X) (old new : Contents X) → P x → All P old.items → OnOk r (IsSameBag (x ∷ old.items) new.items) → OnErr r (new ≡ old) → All P new.items
  All-push (Ok a) x old new has all bag same = All-pushed x old.items new.items has all bag
  All-push (Err e) x old new has all bag same = subst (λ (heap : Contents X). All P heap.items) (sym same) all

  pub All-replace : {E : Type 0} (r : Result X E) (x : X) (old new : Contents X) → P x → All P old.items → IfOk r (λ out. IsSameBag (x ∷ old.items) (out ∷ new.items)) → OnErr r (new ≡ old) →
      All P new.items
  All-replace (Ok out) x old new has all bag same = (All-replaced x out old.items new.items has all bag).1
  All-replace (Err e) x old new has all bag same = subst (λ (heap : Contents X). All P heap.items) (sym same) all

  where_true : (answers : List Bool) (xs : List X) → All P xs → All P (items_where_true answers xs)
  where_true [] xs all = All-nil P
  where_true (b ∷ answers) [] all = All-nil P
  where_true (true ∷ answers) (x ∷ xs) all = All-cons P x (items_where_true answers xs) (All-head P x xs all) (where_true answers xs (All-tail P x xs all))
  where_true (false ∷ answers) (x ∷ xs) all = where_true answers xs (All-tail P x xs all)

  -- after a `retain`
  pub All-retained : {F : Type 0} {calls : F → X → Bool → F → Type 0} {D : ℕ} {f : F} (old new : Contents X) → All P old.items → IsRetained calls D f old new → All P new.items
  All-retained old new all kept = All-permutation P (items_where_true kept.answers old.items) new.items kept.bag (where_true kept.answers old.items all)

-- if the predicate of a `retain` tells what the test does, the test's filter is left
pub retained_filter : {X F : Type 0} {calls : F → X → Bool → F → Type 0} {D : ℕ} {f : F} (test : X → Bool) (old new : Contents X) →
    ((x : X) (answer : Bool) (after : F) → calls f x answer after → (answer ≡ test x) × (after ≡ f)) → IsRetained calls D f old new → IsSameBag (filter test old.items) new.items
retained_filter {X} {calls = calls} {f = f} test old new tells kept =
    subst (λ (xs : List X). IsSameBag xs new.items) (filter_same calls test f tells old.items _ (kept.answers, kept.after, kept.all, kept.asked, refl)) kept.bag

-- ---- a greatest item, by the clause `greatest` of a call

module _ {X : Type 0} {cmp : X → X → Ordering} where
  pub all_at_most : (items : List X) (m : X) → IsGreatest cmp items m → All (λ x. cmp x m ≢ Greater) items
  all_at_most items m h = All-weaker (Contains items) (λ x. cmp x m ≢ Greater) (λ x in'. h.none_above x in') items (All-contains_itself items)

  -- if the order compares a number first, as `nat_le_from_cmp` and `nat_le_from_first` show
  module _ (key : X → ℕ) (by_key : (x y : X) → cmp x y ≢ Greater → key x ≤ key y) where
    pub all_keys_up_to : (items : List X) (m : X) → IsGreatest cmp items m → All (λ x. key x ≤ key m) items
    all_keys_up_to items m h = All-weaker (Contains items) (λ x. key x ≤ key m) (λ x in'. by_key x m (h.none_above x in')) items (All-contains_itself items)

    -- of a heap by `LeastFirst`
    pub all_keys_from : (items : List X) (m : X) → IsGreatest (flip_args cmp) items m → All (λ x. key m ≤ key x) items
    all_keys_from items m h = All-weaker (Contains items) (λ x. key m ≤ key x) (λ x in'. by_key m x (h.none_above x in')) items (All-contains_itself items)

-- ---- a change at a place

module _ {X : Type 0} {cmp : X → X → Ordering} (total : IsTotalOrder cmp) (D place : ℕ) where
  -- a heap is one but at any place
  pub ordered_but_at : (xs : List X) → IsHeapOrdered cmp D xs → IsHeapOrderedButAt cmp D place xs
  ordered_but_at xs h = record {
    elsewhere = λ i pos other apart. h.below_parent i pos;
    across = λ i high pos c.
        let over : parent D i < i = parent-below D i pos in
        IsAtMost-over total xs i place (parent D place) (omega arith) (IsAtMost-by _ _ _ _ refl (ap (slice_get xs) (sym c)) (h.below_parent i pos)) (h.below_parent place high);
  }

  -- and stays so if the item there is overwritten
  pub overwritten : (xs : List X) (x : X) → IsHeapOrdered cmp D xs → IsHeapOrderedButAt cmp D place (set xs place x)
  overwritten xs x h = still_but_at D place xs (set xs place x) (λ k other inside. slice_get-set_other xs place k x other) (ordered_but_at xs h)

-- ---- an item that was found at a place of the slice

-- what is known of the place, as by `position`, is known of the item that `remove_at` or `replace_at` returns for it
pub holds_of_returned : {X : Type 0} (P : X → Type 0) (items : List X) (place : ℕ) (item : X) → HoldsAt P items place → slice_get items place ≡ Some item → P item
holds_of_returned P items place item h at = subst P (get_or_from_slice_get items place item item at) (h item)

-- if the keys of the items are distinct, no item that is left has the key of the one that was removed
pub none_left : {X K : Type 0} (key : X → K) (equal : K → K → Bool) → ((j k : K) → equal j k ≡ equal k j) → (items left : List X) (item : X) → IsDistinct equal (map key items) →
    IsSameBag items (item ∷ left) → All (λ other. equal (key item) (key other) ≡ false) left
none_left {X} {K} key equal flips items left item distinct went =
    let apart : IsDistinct equal (key item ∷ map key left) = IsDistinct-IsPermutation equal flips _ _ (IsPermutation-map key items (item ∷ left) went) distinct in
    let others : All (λ (k : K). equal (key item) k ≡ false) (map key left) = All-from_recursion (λ (k : K). equal (key item) k ≡ false) _ (IsDistinct-head equal (key item) (map key left) apart) in
    All-weaker (Contains left) (λ (other : X). equal (key item) (key other) ≡ false)
    (λ other there. All-contains (λ (k : K). equal (key item) k ≡ false) (map key left) (key other) others (Contains-map key left other there)) left (All-contains_itself left)

-- ---- pops in a row

IsDescending-push : {X : Type 0} (cmp : X → X → Ordering) (xs : List X) (m : X) → IsDescending cmp xs → ((x : X) → Contains xs x → cmp m x ≢ Greater) → IsDescending cmp (xs ++ m ∷ [])
IsDescending-push cmp [] m h under = (λ y in'. absurd (holds_none y in'), tt)
IsDescending-push {X} cmp (x ∷ xs) m h under = (
  λ y in'. elim (Contains-append_cases xs (m ∷ []) y in') [
    | inl old ↦ h.0 y old
    | inr new ↦ subst (λ (v : X). cmp v x ≢ Greater) (alone m y new) (under x (Contains-first x xs))
  ],
  IsDescending-push cmp xs m h.1 (λ v there. under v (Contains-later x xs v there)),
)

module _ {X : Type 0} {cmp : X → X → Ordering} where
  -- where a loop of pops begins
  pub IsGivenDescending-none : (items : List X) → IsGivenDescending cmp items [] items
  IsGivenDescending-none items = record { bag = IsPermutation-refl items; descending = tt; none_greater = λ x y in' there. absurd (holds_none x in') }

  -- and its step, by the clauses `greatest` and `bag` of `pop`
  pub IsGivenDescending-pop : (items given left rest : List X) (m : X) → IsGivenDescending cmp items given left → IsGreatest cmp left m → IsSameBag left (m ∷ rest) →
      IsGivenDescending cmp items (given ++ m ∷ []) rest
  IsGivenDescending-pop items given left rest m h greatest bag = record {
    bag = IsPermutation-pop_more items given left rest m h.bag bag;
    descending = IsDescending-push cmp given m h.descending (λ x in'. h.none_greater x m in' greatest.occurs);
    none_greater = λ x y in' there.
        let before : Contains left y = came_later m rest left y (IsPermutation-sym left (m ∷ rest) bag) there in
        elim (Contains-append_cases given (m ∷ []) x in') [
          | inl old ↦ h.none_greater x y old before
          | inr new ↦ subst (λ (v : X). cmp y v ≢ Greater) (alone m x new) (greatest.none_above y before)
        ];
  }

-- what the first few calls give is what the same calls of the source give
pub take_yields : {S A : Type 0} (steps : S → Option A → S → Type 0) (s : Take S) (xs : List A) (t : Take S) → Yields (take_steps steps) s xs t → Yields steps (take_source s) xs (take_source t) ×
    (length xs + take_count t ≡ take_count s)
take_yields steps s [] t run = (ap take_source run, omega (arith, ap take_count run))
take_yields steps s (x ∷ xs) t run = let rest = take_yields steps run.0 xs t run.2 in ((take_source run.0, run.1.0, rest.0), omega (arith, rest.1, run.1.1))

module _ {X : Type 0} (cmp : X → X → Ordering) (D : ℕ) where
  first_pops : (heap : Contents X) (k : ℕ) (s t u : Take (Contents X)) (xs : List X) → take_source s ≡ heap → take_count s ≡ k → Yields (take_steps (IsPop cmp D)) s xs t →
      take_steps (IsPop cmp D) t None u → (left : List X) × IsGivenDescending cmp heap.items xs left × (length xs ≡ min k (length heap.items))
  first_pops heap k s t u xs source count run ended =
      let taken = take_yields (IsPop cmp D) s xs t run in
      let left = take_source t in
      let part = pops_given cmp D heap xs left (rw source at taken.0) in
      let long : length xs + length left.items ≡ length heap.items = omega (arith, length_permutation _ _ part.bag, length-append xs left.items) in
      let all : 0 < take_count t → length left.items ≡ 0 = λ more. ap length (none_first left.items (ended more).first) in
      let as_many : length xs ≡ min k (length heap.items) =
      elim (cases_lt 0 (take_count t)) [ inl some ↦ omega (arith, all some, long, taken.1, count) | inr none ↦ omega (arith, none, long, taken.1, count) ] in
      (left.items, part, as_many)

  -- `into_iter_sorted().take(k).collect(alloc)` as k pops, or as many as there are items
  pub take_pops : (heap : Contents X) (k : ℕ) (s : Take (Contents X)) (r : Result (Vec X Global) AllocError) → take_source s ≡ heap → take_count s ≡ k →
      IsCollectResult (take_steps (IsPop cmp D)) s r → IfOk r (λ v. (left : List X) × IsGivenDescending cmp heap.items v.items left × (length v.items ≡ min k (length heap.items)))
  take_pops heap k s (Ok v) source count ran =
      let run = ran.1 in
      let ended = run.2 tt in
      rw ran.2.0 (first_pops heap k s run.0 ended.0 ran.0 source count run.1 ended.1)
  take_pops heap k s (Err e) source count ran = tt

-- ---- two arities

-- a run of the code in which nothing is refused is one of the machine
pub RunsUnrefused-from : {X P : Type 0} {cmp : X → X → Ordering} {calls : P → X → Bool → P → Type 0} {D : ℕ} (old new : Contents X) (commands : List (Command X P)) (replies : List (Reply X)) →
    Runs cmp calls D old commands replies new → AllByRecursion IsUnrefused replies → RunsUnrefused cmp calls old.items commands replies new.items
RunsUnrefused-from old new commands replies runs unrefused = record { states = runs.states; begins = runs.begins; run = runs.run; ends = runs.ends; unrefused = unrefused }

-- ---- a heap of `Reverse`, which gives the least first

module _ {X : Type 0} (seen : List X) (old new : List (Reverse X)) (item : Reverse X) (view : map (λ (r : Reverse X). r.0) old ≡ seen) where
  -- what came to the heap came to the bag of the items themselves
  pub reversed_came : IsSameBag (item ∷ old) new → IsSameBag (item.0 ∷ seen) (map (λ (r : Reverse X). r.0) new)
  reversed_came bag = subst (λ (xs : List X). IsSameBag (item.0 ∷ xs) (map (λ (r : Reverse X). r.0) new)) view (IsPermutation-map (λ (r : Reverse X). r.0) (item ∷ old) new bag)

  -- what was taken out of it was taken out of that
  pub reversed_went : IsSameBag old (item ∷ new) → IsSameBag seen (item.0 ∷ map (λ (r : Reverse X). r.0) new)
  reversed_went bag = subst (λ (xs : List X). IsSameBag xs (item.0 ∷ map (λ (r : Reverse X). r.0) new)) view (IsPermutation-map (λ (r : Reverse X). r.0) old (item ∷ new) bag)

-- a greatest of the reversed items is a least item: it is there, and exceeds none
pub reversed_least : {X : Type 0} {cmp : X → X → Ordering} (items : List (Reverse X)) (item : Reverse X) → IsGreatest (λ x y. cmp y.0 x.0) items item →
    IsGreatest (λ x y. cmp y x) (map (λ (r : Reverse X). r.0) items) item.0
reversed_least {X} {cmp} items item h = record {
  occurs = Contains-map (λ (r : Reverse X). r.0) items item h.occurs;
  none_above = λ x in'. All-contains (λ (v : X). cmp item.0 v ≢ Greater) (map (λ (r : Reverse X). r.0) items) x
      (All-mapped (λ (v : X). cmp item.0 v ≢ Greater) (λ (r : Reverse X). r.0) items (λ r there. h.none_above r there)) in';
}

module _ {X : Type 0} {cmp : X → X → Ordering} (key : X → ℕ) (by_key : (x y : X) → cmp x y ≢ Greater → key x ≤ key y) where
  -- no item has a lesser key than a greatest of the reversed ones
  pub reversed_least_key : (items : List (Reverse X)) (item : Reverse X) → IsGreatest (λ x y. cmp y.0 x.0) items item → All (λ other. key item.0 ≤ key other) (map (λ (r : Reverse X). r.0) items)
  reversed_least_key items item h = All-mapped (λ other. key item.0 ≤ key other) (λ (r : Reverse X). r.0) items (λ x in'. by_key item.0 x.0 (h.none_above x in'))

  -- if the front is a greatest of the reversed ones and its key is above a bound, so are all keys
  pub reversed_all_above : (bound : ℕ) (items : List (Reverse X)) → ((item : Reverse X) → front items ≡ Some item → IsGreatest (λ x y. cmp y.0 x.0) items item) →
      ((item : Reverse X) → front items ≡ Some item → bound < key item.0) → All (λ other. bound < key other) (map (λ (r : Reverse X). r.0) items)
  reversed_all_above bound items shown h = All-mapped (λ other. bound < key other) (λ (r : Reverse X). r.0) items (λ x in'. elim (front_cases items) [
    | inl none ↦ absurd (holds_none x (subst (λ (xs : List (Reverse X)). Contains xs x) none in'))
    | inr some ↦
        (let greatest = shown some.0 some.1 in
        let up = h some.0 some.1 in
        let under = by_key some.0.0 x.0 (greatest.none_above x in') in
        omega (arith, up, under))
  ])

-- ---- what a predicate answered, by the clauses `asked` and `empty` of `pop_if`. Gives is the predicate, as `FnOnceReturnsAt` has it

module _ {X : Type 0} (Gives : X → Bool → Type 0) where
  -- of the answer to one item
  by_answer : (x item : X) (answer : Bool) → Gives x answer → Some item ≡ (if answer then Some x else None) → Gives item true
  by_answer x item true h is = let same : x ≡ item = (cc) in subst (λ (y : X). Gives y true) same h
  by_answer x item false h is = absurd (cc)

  by_no_answer : (x : X) (answer : Bool) → Gives x answer → None ≡ (if answer then Some x else None) → Gives x false
  by_no_answer x true h is = absurd (cc)
  by_no_answer x false h is = h

  -- if an item came out, the predicate returned yes for it
  pub pop_if_yes : (items : List X) (item : X) → (items ≡ [] → Some item ≡ None) →
      ((x : X) → front items ≡ Some x → (answer : Bool) × Gives x answer × (Some item ≡ (if answer then Some x else None))) → Gives item true
  pop_if_yes items item empty asked = elim (front_cases items) [
    | inl none ↦ absurd (let e = empty none in cc)
    | inr some ↦ (let a = asked some.0 some.1 in by_answer some.0 item a.0 a.1 a.2)
  ]

  -- and if none did, it returned no for the front
  pub pop_if_no : (items : List X) → ((x : X) → front items ≡ Some x → (answer : Bool) × Gives x answer × (None ≡ (if answer then Some x else None))) → (x : X) → front items ≡ Some x → Gives x false
  pop_if_no items asked x first = let a = asked x first in by_no_answer x a.0 a.1 a.2

-- ---- from a comparison in the code to `cmp`

lt_yes : (r : Ordering) → is_lt r ≡ true → r ≡ Less
lt_yes r h = grind arith

-- what is strictly less is not strictly greater
pub not_greater-less : {X : Type 0} (cmp : X → X → Ordering) (x y : X) → cmp x y ≡ Less → cmp x y ≢ Greater
not_greater-less cmp x y h e = cc

-- `agrees` is `g.met.T.Ord.matches_partial_cmp`, and the last premise the clause of `<` and what the test found, as `sym c.lt.ensures ∙ c.if-lt.true`
module _ {X : Type 0} {cmp : X → X → Ordering} {partial : X → X → Option Ordering} (agrees : (x y : X) → partial x y ≡ Some (cmp x y)) (x y : X) where
  tells : (test : Ordering → Bool) (answer : Bool) → is_some_and test (partial x y) ≡ answer → test (cmp x y) ≡ answer
  tells test answer h = sym (ap (is_some_and test) (agrees x y)) ∙ h

  pub cmp_from_lt : is_some_and is_lt (partial x y) ≡ true → cmp x y ≡ Less
  cmp_from_lt h = lt_yes (cmp x y) (tells is_lt true h)

  module _ (total : IsTotalOrder cmp) where
    pub cmp_from_not_lt : is_some_and is_lt (partial x y) ≡ false → cmp y x ≢ Greater
    cmp_from_not_lt h e = lt_no (cmp x y) (tells is_lt false h) (sym (total.antisymm y x) ∙ e)

-- ---- from the order of numbers to theirs, and back

pub nat_le_from_cmp : (a b : ℕ) → nat_cmp a b ≢ Greater → a ≤ b
nat_le_from_cmp a b h = by_ranked (a < b) (a ≡ b) (b < a) (nat_cmp a b) (ranked a b (nat_cmp a b) refl) (λ is lower. omega arith) (λ is same. omega arith) (λ is greater. absurd (h is))

-- numbers that are compared first, and whatever else if they are equal, as a derived `Ord` compares them
pub nat_le_from_first : (a b : ℕ) (rest : Ordering) → ordering_then (nat_cmp a b) rest ≢ Greater → a ≤ b
nat_le_from_first a b rest h = nat_le_from_cmp a b (λ is. h (ap (λ (o : Ordering). ordering_then o rest) is))

-- ---- what proofs of callers of std's heap have, of this one: heap order at arity 2, places in descending order, room for what an iterator gives, and an outcome whose error was mapped

module _ {X : Type 0} {cmp : X → X → Ordering} (total : IsTotalOrder cmp) where
  -- heap order at arity 2 is std's
  pub std_heap_from_ordered : (xs : List X) → IsHeapOrdered cmp 2 xs → IsHeap cmp xs
  unfolding IsHeap
  std_heap_from_ordered xs h p k d low from to within =
      let above : parent 2 k ≡ p = omega arith in
      let x = read xs p (omega arith) in
      let y = read xs k within in
      let up : cmp y.0 x.0 ≢ Greater = (h.below_parent k (omega arith)).not_greater y.0 x.0 y.1 (ap (slice_get xs) above ∙ x.1) in
      ap (λ v. is_lt (cmp v (get_or xs k d))) (get_or_from_slice_get xs p x.0 d x.1)
      ∙ ap (λ v. is_lt (cmp x.0 v)) (get_or_from_slice_get xs k y.0 d y.1)
      ∙ not_less (cmp x.0 y.0) (λ less. up (total.antisymm y.0 x.0 ∙ ap ordering_reverse less))

  pub ordered_from_std_heap : (xs : List X) → IsHeap cmp xs → IsHeapOrdered cmp 2 xs
  unfolding IsHeap
  ordered_from_std_heap xs h = record {
    below_parent = λ i pos. record {
      not_greater = λ x y at_i at_p greater.
          let p = parent 2 i in
          let told = h p i x (omega arith) (omega (arith, pos)) (omega (arith, pos)) (slice_get_within xs i x at_i) in
          let found = ap (λ v. is_lt (cmp y v)) (sym (get_or_from_slice_get xs i x x at_i)) ∙ ap (λ v. is_lt (cmp v (get_or xs i x))) (sym (get_or_from_slice_get xs p y x at_p)) ∙ told in
          lt_no (cmp y x) found (sym (total.antisymm x y) ∙ greater);
    };
  }

  -- of two places of a descending list the later has no greater item
  pub descending_at : (xs : List X) → IsDescending cmp xs → (i j : ℕ) (x y : X) → i ≤ j → slice_get xs i ≡ Some x → slice_get xs j ≡ Some y → cmp y x ≢ Greater
  descending_at [] h i j x y before at_i at_j = absurd (omega (arith, slice_get_within [] i x at_i))
  descending_at (z ∷ zs) h zero zero x y before at_i at_j = let same : x ≡ y = cc in subst (λ v. cmp v x ≢ Greater) same (not_greater-self total x)
  descending_at (z ∷ zs) h zero (suc j) x y before at_i at_j =
      let same : z ≡ x = cc in
      subst (λ v. cmp y v ≢ Greater) same (h.0 y (j, slice_get_within zs j y at_j, get_or_from_slice_get zs j y y at_j))
  descending_at (z ∷ zs) h (suc i) zero x y before at_i at_j = absurd (omega (arith, before))
  descending_at (z ∷ zs) h (suc i) (suc j) x y before at_i at_j = descending_at zs h.1 i j x y (omega (arith, before)) at_i at_j

-- an iterator that gives at most n items can't lack room for n
pub extend_fits : {S A : Type 0} {steps : S → Option A → S → Type 0} {from : S} (n : ℕ) (xs : List A) (len capacity : ℕ) → YieldsAtMost steps from n → len + n ≤ capacity →
    IsRefusedAfter steps from xs len capacity → ⊥
extend_fits n xs len capacity few room h = omega (arith, few.runs _ _ h.gave, length-append xs (h.refused ∷ []), h.full, room)

-- what is told of one outcome is told of another with the same variant: `map_err` leaves an `Ok` an `Ok`
pub on_ok_of : {A E F : Type 0} (r : Result A E) (s : Result A F) {P Q : Type 0} → is_ok s ≡ is_ok r → OnOk r P → (P → Q) → OnOk s Q
on_ok_of (Ok x) (Ok y) same h f = f h
on_ok_of (Ok x) (Err e) same h f = tt
on_ok_of (Err e) (Ok y) same h f = absurd (cc)
on_ok_of (Err e) (Err d) same h f = tt
