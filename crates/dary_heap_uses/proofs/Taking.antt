-- Timers that are taken one after another, and the first of two by two numbers.
use Rattle.dary_heap_uses.proofs.Common.{All, All-contains, All-mapped, All-nil, All-permutation, All-push, All-tail, AllPairs, AreDistinct, AreDistinct-map, Contains-map, Gets, Gets-all, Gets-map}
use Rattle.dary_heap_uses.proofs.Common.{Greater, IsAbsent, IsAbsent-map, IsBefore, IsFirst, IsGreatest, IsPermutation-map, IsPermutation-pop_more, IsPermutation-refl, IsSameBag, List, Option}
use Rattle.dary_heap_uses.proofs.Common.{Ordering, [], all_pairs_push, ap, append-nil, append_assoc, arith, by_item, flip_args, get_or, item_of, item_of-map, length-map, map, named, nat_cmp}
use Rattle.dary_heap_uses.proofs.Common.{All-contains_itself, All-head, All-weaker, Contains, IsDescending, length, zero, suc}
use Rattle.dary_heap.proofs.Common.{Contains-append_left, Contains-append_right, IsGivenDescending, cases_lt, map-append, min, nil_from_length, Bor}
use Rattle.dary_heap.proofs.iter.InOrder.{gives_greatest}
use Rattle.dary_heap.specs.IterSorted.{GivesNext, InOrder, StartsInOrder}
use Rattle.indexed_heap.specs.Iterating.{shown}
use mathlib.Core.List.{map-map}
use Rattle.std.specs.Iterator.{Drains}
use Rattle.dary_heap_uses.proofs.Common.{IsPermutation-trans, inl, inr, subst}
use Rattle.dary_heap_uses.specs.Timers.{ComeNext}
use Rattle.dary_heap_uses.proofs.Common.{option_map, ordering_then, refl, sym, ℕ, ◌++◌, ◌<◌, ◌∙◌, ◌∷◌, ◌≡◌, ◌≢◌, ◌≤◌, ◌⊎◌}

-- one of two that isn't greater comes before the other, by the first number or by the second
pub comes_before : (a b c d : ℕ) → ordering_then (nat_cmp a b) (nat_cmp c d) ≢ Greater → (a < b) ⊎ ((a ≡ b) × (c ≤ d))
comes_before a b c d h = grind arith

-- then its moment is no later
pub before_up : (a b : ℕ × ℕ) → IsBefore a b → a.1 ≤ b.1
before_up a b h = grind arith

-- how the queue's judge compares, and that each entry has its name
abbrev pub by_moment : ℕ × ℕ → ℕ × ℕ → Ordering
by_moment = flip_args (λ a b. ordering_then (nat_cmp a.0 b.0) (nat_cmp a.1 b.1))

abbrev pub HasItsName : ℕ × (ℕ × ℕ) → Type 0
HasItsName entry = entry.1.1 ≡ entry.0

-- a greatest entry for the judge is the first timer
pub first_of : (entries : List (ℕ × (ℕ × ℕ))) (entry : ℕ × (ℕ × ℕ)) → All HasItsName entries → IsGreatest (by_item by_moment) entries entry → IsFirst (map named entries) (named entry)
first_of entries entry names greatest = record {
  is_set = Contains-map named entries entry greatest.occurs;
  before = All-mapped (IsBefore (named entry)) named entries (λ other in'. grind (arith, greatest.none_above other in'));
}

-- what holds of each item holds of those that are left once one was taken
pub all_left : {X : Type 0} (P : X → Type 0) (old new : List X) (x : X) → IsSameBag old (x ∷ new) → All P old → All P new
all_left P old new x bag all = All-tail P x new (All-permutation P old (x ∷ new) bag all)

-- some timers that are due were taken, and none that is left comes before one of them
pub record IsTaking (now : ℕ) (set left before after : List (ℕ × ℕ)) : Type 0 where
  pub taken : List (ℕ × ℕ)
  pub added : after ≡ before ++ taken
  pub none_lost : IsSameBag set (taken ++ left)
  pub in_order : AllPairs IsBefore taken
  pub none_early : All (λ timer. timer.1 ≤ now) taken
  pub none_before : All (λ timer. All (IsBefore timer) left) taken

pub none_taken : (now : ℕ) (set before : List (ℕ × ℕ)) → IsTaking now set set before before
none_taken now set before = record {
  taken = [];
  added = sym (append-nil before);
  none_lost = IsPermutation-refl set;
  in_order = λ i j d lower within. absurd (omega (arith, within));
  none_early = All-nil (λ (t : ℕ × ℕ). t.1 ≤ now);
  none_before = All-nil (λ (t : ℕ × ℕ). All (IsBefore t) set);
}

pub one_taken : {now : ℕ} {set left before after : List (ℕ × ℕ)} → IsTaking now set left before after → (timer : ℕ × ℕ) (rest : List (ℕ × ℕ)) → IsFirst left timer → timer.1 ≤ now →
    IsSameBag left (timer ∷ rest) → IsTaking now set rest before (after ++ timer ∷ [])
one_taken {now} {set} {left} {before} {after} h timer rest first due bag = record {
  taken = h.taken ++ timer ∷ [];
  added = ap (λ xs. xs ++ timer ∷ []) h.added ∙ append_assoc before h.taken (timer ∷ []);
  none_lost = IsPermutation-pop_more set h.taken left rest timer h.none_lost bag;
  in_order = all_pairs_push IsBefore h.taken timer h.in_order (λ k d within. All-contains (IsBefore (get_or h.taken k d)) left timer (h.none_before k d within) first.is_set);
  none_early = All-push (λ (t : ℕ × ℕ). t.1 ≤ now) h.taken timer h.none_early due;
  none_before = λ k d within. all_left (IsBefore (get_or (h.taken ++ timer ∷ []) k d)) left rest timer bag
      (All-push (λ (t : ℕ × ℕ). All (IsBefore t) left) h.taken timer h.none_before first.before k d within);
}

-- ---- what is said of the queue's entries, said of the timers. Where an entry came or went, the first part of a conclusion says nothing: it shows `grind` the fact to match

module _ (name : ℕ) (entries : List (ℕ × (ℕ × ℕ))) where
  pub distinct_named : AreDistinct entries → AreDistinct (map named entries)
  distinct_named = AreDistinct-map (λ timer. timer.0) entries

  pub moment_named : item_of name (map named entries) ≡ option_map (λ timer. timer.0) (item_of name entries)
  moment_named = item_of-map (λ timer. timer.0) name entries

  pub absent_named : IsAbsent name entries → IsAbsent name (map named entries)
  absent_named = IsAbsent-map (λ timer. timer.0) name entries

module _ (old new : List (ℕ × (ℕ × ℕ))) (names : All HasItsName old) where
  pub gets_named : (name moment : ℕ) (given : Option (ℕ × ℕ)) → Gets name (moment, name) old given new →
      Gets name (moment, name) old given new × All HasItsName new × Gets name moment (map named old) (option_map (λ timer. timer.0) given) (map named new)
  gets_named name moment given h = (h, Gets-all HasItsName name _ _ _ _ h refl names, Gets-map (λ timer. timer.0) name _ _ _ _ h)

  pub taken_named : (entry : ℕ × (ℕ × ℕ)) → IsSameBag old (entry ∷ new) → IsSameBag old (entry ∷ new) × All HasItsName new × IsSameBag (map named old) (named entry ∷ map named new)
  taken_named entry h = (h, all_left HasItsName old new entry h names, IsPermutation-map named old (entry ∷ new) h)

pub ruleset when_set = (absent_named, gets_named, length-map)

-- ---- what comes next, with nothing taken out

-- the timer of an entry that is lent
abbrev pub shown_timer : ℕ × Bor (ℕ × ℕ) → ℕ × ℕ
shown_timer entry = (entry.0, entry.1.now.0)

-- one entry isn't greater than another for the judge, so its timer comes after it
comes_after : (a b : ℕ × (ℕ × ℕ)) → HasItsName a → HasItsName b → by_item by_moment b a ≢ Greater → IsBefore (named a) (named b)
comes_after a b has is h = grind (arith, has, is, h)

-- a first one that comes before all others
pairs_cons : (x : ℕ × ℕ) (xs : List (ℕ × ℕ)) → All (IsBefore x) xs → AllPairs IsBefore xs → AllPairs IsBefore (x ∷ xs)
pairs_cons x xs first later zero zero d lower within = absurd (omega (arith, lower))
pairs_cons x xs first later zero (suc j) d lower within = first j d (omega (arith, within))
pairs_cons x xs first later (suc i) zero d lower within = absurd (omega (arith, lower))
pairs_cons x xs first later (suc i) (suc j) d lower within = later i j d (omega (arith, lower)) (omega (arith, within))

module _ (entries : List (ℕ × (ℕ × ℕ))) (names : All HasItsName entries) where
  -- entries that descend for the judge are timers in their order
  in_their_order : (xs : List (ℕ × (ℕ × ℕ))) → All HasItsName xs → IsDescending (by_item by_moment) xs → AllPairs IsBefore (map named xs)
  in_their_order [] has h = λ i j d lower within. absurd (omega (arith, within))
  in_their_order (x ∷ xs) has h = pairs_cons (named x) (map named xs)
      (All-mapped (IsBefore (named x)) named xs (λ other in'. comes_after x other (All-head HasItsName x xs has) (All-contains HasItsName xs other (All-tail HasItsName x xs has) in') (h.0 other in')))
      (in_their_order xs (All-tail HasItsName x xs has) h.1)

  pub those_next : (most : ℕ) (xs rest : List (ℕ × (ℕ × ℕ))) → IsGivenDescending (by_item by_moment) entries xs rest → length xs ≡ min most (length entries)
      → ComeNext most (map named entries) (map named xs)
  those_next most xs rest given count =
      let both = All-permutation HasItsName entries (xs ++ rest) given.bag names in
      let first = All-weaker (Contains xs) HasItsName (λ x in'. All-contains HasItsName (xs ++ rest) x both (Contains-append_left xs rest x in')) xs (All-contains_itself xs) in
      let last = All-weaker (Contains rest) HasItsName (λ x in'. All-contains HasItsName (xs ++ rest) x both (Contains-append_right xs rest x in')) rest (All-contains_itself rest) in
      record {
        others = map named rest;
        none_lost = rw (← map-append named xs rest) (IsPermutation-map named entries (xs ++ rest) given.bag);
        in_order = in_their_order xs first given.descending;
        none_before = All-mapped (λ timer. All (IsBefore timer) (map named rest)) named xs (λ x in'.
            All-mapped (IsBefore (named x)) named rest (λ y there.
            comes_after x y (All-contains HasItsName xs x first in') (All-contains HasItsName rest y last there) (given.none_greater x y in' there)));
        count = length-map xs named ∙ count ∙ ap (min most) (sym (length-map entries named));
      }

  pub none_next : (most : ℕ) → min most (length entries) ≡ 0 → ComeNext most (map named entries) []
  none_next most none = record {
    others = map named entries;
    none_lost = IsPermutation-refl (map named entries);
    in_order = λ i j d lower within. absurd (omega (arith, within));
    none_before = All-nil (λ timer. All (IsBefore timer) (map named entries));
    count = sym (ap (min most) (length-map entries named) ∙ none);
  }

  -- what an iterator in order gives up to its end
  pub come_next : (D most : ℕ) (from : InOrder (ℕ × (ℕ × ℕ))) (xs : List (ℕ × Bor (ℕ × ℕ))) → StartsInOrder D most entries from → Drains (GivesNext shown (by_item by_moment) D) from xs
      → ComeNext most (map named entries) (map shown_timer xs)
  come_next D most from xs starts drained =
      let end = (gives_greatest shown (by_item by_moment) D from).all xs drained in
      let given = end.2 in
      let count : length (map shown xs) ≡ min most (length entries) = length-map xs shown ∙ end.0 ∙ starts.left in
      elim (cases_lt 0 from.left) [
        | inl some ↦ subst (ComeNext most (map named entries)) (map-map named shown xs) (those_next most (map shown xs) end.1 record {
          bag = IsPermutation-trans entries from.rest (map shown xs ++ end.1) starts.bag given.bag;
          descending = given.descending;
          none_greater = given.none_greater;
        } count)
        | inr none ↦
            let empty : xs ≡ [] = nil_from_length xs (omega (arith, end.0, none)) in
            subst (λ l. ComeNext most (map named entries) (map shown_timer l)) (sym empty) (none_next most (omega (arith, starts.left, none)))
      ]
