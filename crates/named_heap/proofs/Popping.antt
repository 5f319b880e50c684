-- A pop of entries with names, as one of pairs.
use Rattle.dary_heap.proofs.Common.{◌≡◌, ℕ, ◌-◌, ◌<◌, [], ◌∷◌, Bool, List, length, ap, refl, arith, Option, Some, None, IfNone, IfSome, IsSome, slice_get, length_permutation, Ordering}
use Rattle.dary_heap.proofs.Common.{IsGreatest, IsSameBag, RisesWithin, pop_bound}
use Rattle.std.specs.Iterator.{MakesProgress, item_count}
use Rattle.std.specs.Iterator.{Yields}
use Rattle.dary_heap.proofs.Popping.{none_first, pops_give}
use Rattle.dary_heap.specs.Popping.{GivesDescending, IsPop}
use Rattle.named_heap.specs.Entries.{AreSound, Named, by_item}
use Rattle.named_heap.specs.Iterating.{PopsNext, contents}

module _ {K T : Type 0} {eq : K → K → Bool} {cmp : T → T → Ordering} {D : ℕ} (old new : Named K T) where
  pub is_pop : (popped : Option (K × T)) → popped ≡ slice_get old.entries 0 → IfSome popped (IsGreatest (by_item cmp) old.entries) → IfSome popped (λ e. IsSameBag old.entries (e ∷ new.entries)) →
      RisesWithin old.comparisons new.comparisons (pop_bound D (length old.entries)) → AreSound eq cmp D new.entries → IfNone popped (new ≡ old) →
      IsPop (by_item cmp) D (contents old) popped (contents new)
  is_pop None first greatest bag counted sound unchanged =
      let empty = ap (λ (l : List (K × T)). length l) (none_first old.entries first) in
      let same : length new.entries ≡ length old.entries = ap (λ (h : Named K T). length h.entries) unchanged in
      record { first = first; greatest = tt; bag = tt; len = omega (arith, empty, same); ordered = sound.ordered; counted = counted; capacity = refl; unchanged = ap contents unchanged }
  is_pop (Some e) first greatest bag counted sound unchanged =
      record {
        first = first;
        greatest = greatest;
        bag = bag;
        len = omega (arith, length_permutation old.entries (e ∷ new.entries) bag);
        ordered = sound.ordered;
        counted = counted;
        capacity =
            refl;
        unchanged = tt;
      }

-- each pop brings the end nearer
pub pop_goes : {K T : Type 0} (can : Named K T → Type 0) → ((s : Named K T) → can s) → (old new : Named K T) (popped : Option (K × T)) → length new.entries ≡ length old.entries - 1 →
    (IsSome popped → 0 < length old.entries) →
    MakesProgress can (item_count {S = Named K T} {A = K × T} (λ heap. heap.entries)) old popped new
pop_goes can any old new None len some = record { on = λ _. tt; keeps = tt; rests = λ _. tt }
pop_goes can any old new (Some x) len some = record { on = λ _. (any new, tt, omega (arith, len, some refl)); keeps = any new; rests = λ _. tt }

-- calls of `next` are pops of pairs in a row
module _ {K T : Type 0} (cmp : T → T → Ordering) (D : ℕ) where
  pops_of : (heap : Named K T) (xs : List (K × T)) (later : Named K T) → Yields (PopsNext cmp D) heap xs later → Yields (IsPop (by_item cmp) D) (contents heap) xs (contents later)
  pops_of heap [] later run = ap contents run
  pops_of heap (x ∷ xs) later run = (contents run.0, run.1.pop, pops_of run.0 xs later run.2)

  pub entries_give : (heap : Named K T) → GivesDescending (by_item cmp) (PopsNext cmp D) (λ (h : Named K T). h.entries) heap
  entries_give heap =
      let pops = pops_give (by_item cmp) D (contents heap) in
      record {
        part = λ xs later run. pops.part xs (contents later) (pops_of heap xs later run);
        all = λ xs run. pops.all xs (contents run.0, (contents run.1.0, pops_of heap xs run.1.0 run.1.1, run.1.2.pop));
      }
