-- Turns of jobs that wait, and which job comes before the others.
use Rattle.dary_heap_uses.proofs.Common.{All, All-cons, All-contains, All-contains_itself, All-permutation, All-tail, All-weaker, ComesBefore, Contains, IsDistinct-IsPermutation}
use Rattle.dary_heap_uses.proofs.Common.{IsDistinct-cons, IsDistinct-tail, IsGreatest, IsNumbered, IsPermutation-map, IsPermutation-refl, IsPermutation-sym, IsSameBag, List, Waiting, [], arith}
use Rattle.dary_heap_uses.proofs.Common.{by_item, came_later, false, inl, inr, map, nat_cmp, nat_eq, nat_eq_equiv, ne_eqb, none_left, not_from_Decides, ordering_then, recursion_from_All, sym, turn_of}
use Rattle.dary_heap_uses.proofs.Common.{unsigned_Decides, ℕ, ◌++◌, ◌+◌, ◌<◌, ◌∷◌, ◌≡◌}
use Rattle.dary_heap_uses.proofs.Common.{Bool, Gets, HasMoved, IsPermutation, IsPermutation-cons, IsPermutation-middle, IsPermutation-remove, IsPermutation-trans, IsPermutation-uncons}
use Rattle.dary_heap_uses.proofs.Common.{Some, item_of, item_of-there, remove, submitted, subst, true}
use Rattle.std.specs.Bool.{OnFalse, OnTrue}
use Rattle.std.specs.Fn.{FnOnceReturnsAtMut, Once}
use denote.Ref.{MutBor}
use Rattle.indexed_heap.specs.Entries.{Indexed}
use Rattle.indexed_heap.specs.Updating.{Updates}
use Rattle.dary_heap_uses.proofs.Taking.{comes_before}

pub numbered_more : (turns : List ℕ) (came : ℕ) → IsNumbered turns came → IsNumbered (came ∷ turns) (came + 1)
numbered_more turns came h = record {
  distinct = IsDistinct-cons nat_eq came turns (recursion_from_All (λ n. nat_eq came n ≡ false) turns
      (All-weaker (λ n. n < came) (λ n. nat_eq came n ≡ false) (λ n lower. ne_eqb came n (λ same. absurd (omega (arith, lower, same)))) turns h.below)) h.distinct;
  below = All-cons (λ n. n < came + 1) came turns (omega arith) (All-weaker (λ n. n < came) (λ n. n < came + 1) (λ n lower. omega arith) turns h.below);
}

module _ {J : Type 0} where
  abbrev turns : List (ℕ × Waiting J) → List ℕ
  turns jobs = map turn_of jobs

  pub numbered_bag : (jobs new : List (ℕ × Waiting J)) (came : ℕ) → IsSameBag jobs new → IsNumbered (turns jobs) came → IsNumbered (turns new) came
  numbered_bag jobs new came bag h =
      let same = IsPermutation-map turn_of jobs new bag in
      record {
        distinct = IsDistinct-IsPermutation nat_eq nat_eq_equiv.symm (turns jobs) (turns new) same h.distinct;
        below = All-permutation (λ n. n < came) (turns jobs) (turns new) same h.below;
      }

  -- those that are left once some are gone have their turns
  pub numbered_left : (jobs gone new : List (ℕ × Waiting J)) (came : ℕ) → IsSameBag jobs (gone ++ new) → IsNumbered (turns jobs) came → IsNumbered (turns new) came
  numbered_left jobs [] new came bag h = numbered_bag jobs new came bag h
  numbered_left jobs (e ∷ gone) new came bag h =
      let all = numbered_bag jobs (e ∷ (gone ++ new)) came bag h in
      let rest : IsNumbered (turns (gone ++ new)) came = record { distinct = IsDistinct-tail nat_eq (turn_of e) _ all.distinct; below = All-tail (λ n. n < came) (turn_of e) _ all.below } in
      numbered_left (gone ++ new) gone new came (IsPermutation-refl (gone ++ new)) rest

  module _ (id priority : ℕ) where
    -- a job that gets another priority keeps its turn, and the others stay
    moved : (held left : Waiting J) (old new : List (ℕ × Waiting J)) → item_of id old ≡ Some held → Gets id left old (Some held) new → left ≡ submitted priority held.turn.0 held.job → HasMoved id priority old new
    moved held left old new was gets is =
        let at = item_of-there id old held was in
        let before : ℕ × Waiting J = (id, held) in
        let after : ℕ × Waiting J = (id, left) in
        let others = remove old at.0 in
        let took : IsPermutation old (before ∷ others) = IsPermutation-remove old at.0 before at.1 (sym at.2) in
        let grown = IsPermutation-trans (after ∷ before ∷ others) (after ∷ old) (before ∷ new) (IsPermutation-cons after (before ∷ others) old (IsPermutation-sym old (before ∷ others) took)) gets.bag in
        let left_in = IsPermutation-trans (before ∷ after ∷ others) (after ∷ before ∷ others) (before ∷ new)
        (IsPermutation-sym (after ∷ before ∷ others) (before ∷ after ∷ others) (IsPermutation-middle (after ∷ []) before others)) grown in
        record {
          was = held;
          others = others;
          before = took;
          after = subst (λ (w : Waiting J). IsPermutation ((id, w) ∷ others) new) is (IsPermutation-uncons before (after ∷ others) new left_in);
        }

    module _ {F : Type 0} {calls : Once F (MutBor (Waiting J) × Unit {0}) (Unit {0} × (MutBor (Waiting J) × Unit {0}))} {f : F} (old new : Indexed (Waiting J)) where
      -- by a function that leaves it so
      pub reprioritised : (b : Bool) → ((held left : Waiting J) → FnOnceReturnsAtMut calls f held tt left → left ≡ submitted priority held.turn.0 held.job) →
          OnTrue b (Updates calls f id old.entries new.entries) → OnTrue b (HasMoved id priority old.entries new.entries)
      reprioritised true leaves h = moved h.held h.left old.entries new.entries h.was h.gets (leaves h.held h.left h.called)
      reprioritised false leaves h = tt

    -- turns are as before then
    pub numbered_either : (old new : Indexed (Waiting J)) (came : ℕ) (b : Bool) → OnTrue b (HasMoved id priority old.entries new.entries) → OnFalse b (new ≡ old) → IsNumbered (turns old.entries) came → IsNumbered (turns new.entries) came
    numbered_either old new came true h same numbered =
        numbered_bag ((id, submitted priority h.was.turn.0 h.was.job) ∷ h.others) new.entries came h.after (numbered_bag old.entries ((id, h.was) ∷ h.others) came h.before numbered)
    numbered_either old new came false h same numbered = subst (λ (heap : Indexed (Waiting J)). IsNumbered (turns heap.entries) came) (sym same) numbered

  -- a greatest job comes before each other
  pub first_left : (jobs new : List (ℕ × Waiting J)) (came : ℕ) (e : ℕ × Waiting J) → IsNumbered (turns jobs) came → IsSameBag jobs (e ∷ new) →
      IsGreatest (by_item (λ a b. ordering_then (nat_cmp a.priority b.priority) (nat_cmp b.turn.0 a.turn.0))) jobs e → All (λ other. ComesBefore e.1 other.1) new
  first_left jobs new came e h bag greatest =
      let apart = none_left turn_of nat_eq nat_eq_equiv.symm jobs new e h.distinct bag in
      All-weaker (Contains new) (λ other. ComesBefore e.1 other.1) (λ other in'.
      let differs = not_from_Decides _ (unsigned_Decides (turn_of e) (turn_of other)) (All-contains (λ other. nat_eq (turn_of e) (turn_of other) ≡ false) new other apart in') in
      elim (comes_before other.1.priority e.1.priority (turn_of e) (turn_of other) (greatest.none_above other (came_later e new jobs other (IsPermutation-sym jobs (e ∷ new) bag) in'))) [
        | inl greater ↦ inl greater
        | inr same ↦ inr (sym same.0, omega (arith, same.1, differs))
      ]) new (All-contains_itself new)
