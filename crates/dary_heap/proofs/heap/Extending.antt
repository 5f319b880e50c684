-- Items that come in one after another.
use Rattle.dary_heap.proofs.Common.{◌≡◌, ℕ, ◌+◌, ◌-◌, ◌≤◌, List, [], ◌∷◌, ◌++◌, length, map, refl, sym, ap, ◌∙◌, subst, arith, Option, None, append-nil, append_assoc, length-append, Ran, map-append}
use Rattle.dary_heap.proofs.Common.{EndsFrom, items_left, Yields, Ordering, IsSameBag, RisesWithin, mend_bound, Contents, IsExtended, IsHeapOrdered}
use Rattle.core.proofs.iter.runs.Lists.{Yields-both}
use Rattle.std.specs.Iterator.{Count, IsFinite, size, YieldsThen, Drains}

-- what an iterator gave before its last item
pub Yields-front : {S A : Type 0} (steps : S → Option A → S → Type 0) (s : S) (xs : List A) (x : A) (u : S) → Yields steps s (xs ++ x ∷ []) u → (t : S) × Yields steps s xs t
Yields-front steps s [] x u gave = (s, refl)
Yields-front steps s (y ∷ xs) x u gave = let rest = Yields-front steps gave.0 xs x u gave.2 in (rest.0, (gave.0, gave.1, rest.1))

-- what came in by two turns
pub came_both : {X T : Type 0} (value : X → T) (old now new : List T) (xs ys : List X) → now ≡ old ++ map value xs → new ≡ now ++ map value ys → new ≡ old ++ map value (xs ++ ys)
came_both value old now new xs ys first second = second ∙ ap (λ l. l ++ map value ys) first ∙ append_assoc old (map value xs) (map value ys) ∙ ap (λ l. old ++ l) (sym (map-append value xs ys))

module _ {S A : Type 0} {can : S → Type 0} (left : S → Count) {steps : S → Option A → S → Type 0} {P : List A → Type 0} {s t : S} (ran : Ran can (EndsFrom left) (items_left left) steps P s t)
    (xs : List A) (u : S) where
  -- it ended
  pub ran_dry : YieldsThen steps t xs None u → Drains steps s (ran.seen ++ xs)
  ran_dry gave = (u, (gave.0, Yields-both steps ran.seen xs s t gave.0 ran.gave gave.1, gave.2))

  -- it may go on
  abbrev pub ran_on : {Q : List A → Type 0} → Yields steps t xs u × can u × IsFinite (left u) × (length xs + size (left u) ≤ size (left t)) → Q (ran.seen ++ xs) →
      Ran can (EndsFrom left) (items_left left) steps Q s u
  ran_on gave holds = record {
    callable = gave.1;
    ending = gave.2;
    seen = ran.seen ++ xs;
    gave = Yields-both steps ran.seen xs s t u ran.gave gave.0;
    counted = omega (arith, ran.counted, gave.3, length-append ran.seen xs);
    holds = holds;
  }

-- items that were put behind those of a heap and mended
pub mended : {T : Type 0} {cmp : T → T → Ordering} {D : ℕ} (old new : Contents T) (xs now : List T) (start : ℕ) → now ≡ old.items ++ xs → start ≡ length old.items → length now ≡ length new.items →
    IsSameBag now new.items → (start ≡ length now → new.items ≡ now) → IsHeapOrdered cmp D new.items → RisesWithin old.comparisons new.comparisons (mend_bound D (length now) (length now - start)) →
    old.capacity ≤ new.capacity → (length old.items + length xs ≤ old.capacity → new.capacity ≡ old.capacity) → IsExtended cmp D old xs new
mended {D = D} old new xs now start is from long bag still ordered counted capacity kept = record {
  bag = rw is at bag;
  unchanged = λ none. let same : now ≡ old.items = is ∙ ap (λ ys. old.items ++ ys) none ∙ append-nil old.items in still (from ∙ ap length (sym same)) ∙ same;
  ordered = ordered;
  len = omega (arith, ap length is, length-append old.items xs, long);
  counted = subst (λ n. RisesWithin old.comparisons new.comparisons (mend_bound D n (n - length old.items))) long
      (subst (λ m. RisesWithin old.comparisons new.comparisons (mend_bound D (length now) (length now - m))) from counted);
  capacity = capacity;
  kept = kept;
}
