-- A run with predicates that ask whether a number is at least a bound is a run with the bounds.
use Rattle.dheap.proofs.Common.{◌≡◌, ℕ, ℤ, Bool, true, false, List, [], ◌∷◌, ◌++◌, None, Some, refl, sym, ap, ◌∙◌, subst, inl, inr, int_le, All, is_some, Command, Step, Steps, MayAnswer, PopIf, Ask}
use Rattle.dheap.proofs.Common.{Retain, DrainSorted, Popped, Asked, Done, text, AsksAtLeast, MayPrint, CarryOut, CarryOutLine, Say, lines_of, Line}
use Rattle.std.specs.List.Retain.{ReturnsInTurn, IsFiltered}
use Rattle.std.specs.Ordering.{int_cmp}
use Rattle.dary_heap.specs.Machine.{Reply, Push, Pop, Len}
use Rattle.std.specs.Fn.{Mut, CalledAt}
use denote.Ref.{Bor}
use Rattle.dary_heap.specs.Contents.{Contents}
use Rattle.dary_heap.specs.Run.{Runs}
use Rattle.dheap.specs.Answers as answers_of
use Rattle.dheap.specs.declared.serve.script.line.Line.TheVariants as line

module _ {P : Type 0} (calls : P → ℤ → Bool → P → Type 0) (means : ℤ → P → Type 0)
    (law : (n : ℤ) (p : P) (x : ℤ) (a : Bool) (q : P) → means n p → calls p x a q → (a ≡ int_le n x) × means n q) where
  answer : (n : ℤ) (p : P) → means n p → (old : List ℤ) (a : Bool) → MayAnswer int_cmp calls old p a → MayAnswer int_cmp AsksAtLeast old n a
  answer n p m old a h = (h.0, h.1, (n, ((law n p h.0 a h.2.0 m h.2.1).0, refl)))

  in_turn : (n : ℤ) (p : P) → means n p → (bs : List Bool) (xs : List ℤ) (q : P) → ReturnsInTurn calls p bs xs q → ReturnsInTurn AsksAtLeast n bs xs n
  in_turn n p m [] xs q h = refl
  in_turn n p m (b ∷ bs) [] q h = absurd h
  in_turn n p m (b ∷ bs) (x ∷ xs) q h = let next = law n p x b h.0 m h.1 in (n, (next.0, refl), in_turn n h.0 next.1 bs xs q h.2)

  filtered : (n : ℤ) (p : P) → means n p → (xs ys : List ℤ) → IsFiltered calls p xs ys → IsFiltered AsksAtLeast n xs ys
  filtered n p m xs ys h = (h.0, n, h.2, in_turn n p m h.0 xs h.1 h.3, h.4)

  ask : (n : ℤ) (p : P) → means n p → (old : List ℤ) (reply : Reply ℤ) (new : List ℤ) → Step int_cmp calls old (Ask p) reply new → Step int_cmp AsksAtLeast old (Ask n) reply new
  ask n p m old (Asked None) new h = h
  ask n p m old (Asked (Some a)) new h = (answer n p m old a h.0, h.1)
  ask n p m old reply new h = absurd h

  pop_if : (n : ℤ) (p : P) → means n p → (old : List ℤ) (reply : Reply ℤ) (new : List ℤ) → Step int_cmp calls old (PopIf p) reply new → Step int_cmp AsksAtLeast old (PopIf n) reply new
  pop_if n p m old (Popped None) new (inl h) = inl h
  pop_if n p m old (Popped None) new (inr h) = inr (answer n p m old false h.0, h.1)
  pop_if n p m old (Popped (Some x)) new h = (h.0, (n, ((law n p x true h.1.0 m h.1.1).0, refl)))
  pop_if n p m old reply new h = absurd h

  retain : (n : ℤ) (p : P) → means n p → (old : List ℤ) (reply : Reply ℤ) (new : List ℤ) → Step int_cmp calls old (Retain p) reply new → Step int_cmp AsksAtLeast old (Retain n) reply new
  retain n p m old Done new h = (h.0, h.1, h.2, filtered n p m h.0 h.1 h.3, h.4, h.5, h.6)
  retain n p m old reply new h = absurd h

  abbrev Converts : Command ℤ P → Command ℤ ℤ → Type 0
  Converts c b = (old : List ℤ) (reply : Reply ℤ) (new : List ℤ) → Step int_cmp calls old c reply new → Step int_cmp AsksAtLeast old b reply new

  abbrev Pairs : List (Command ℤ P) → List (Command ℤ ℤ) → Type 0
  Pairs [] [] = Unit {0}
  Pairs (c ∷ cs) (b ∷ bs) = Converts c b × Pairs cs bs
  Pairs cs bs = ⊥

  abbrev HasBounds : List Line → List (Command ℤ P) → Type 0
  HasBounds lines commands = (bounds : List (Command ℤ ℤ)) × CarryOut (λ n bound. bound ≡ n) bounds lines × Pairs commands bounds

  more : (l : Line) (c : Command ℤ P) (b : Command ℤ ℤ) → Converts c b → CarryOutLine (λ n bound. bound ≡ n) (b ∷ []) l → (lines : List Line) (first later commands : List (Command ℤ P)) →
      commands ≡ first ++ later → first ≡ c ∷ [] → HasBounds lines later → HasBounds (l ∷ lines) commands
  more l c b converts is lines first later commands e f (bounds, carry, pairs) =
      (b ∷ bounds, (b ∷ [], bounds, refl, is, carry), subst (λ cs. Pairs cs (b ∷ bounds)) (sym (e ∙ ap (λ fs. fs ++ later) f)) (converts, pairs))

  bounds_of : (lines : List Line) (commands : List (Command ℤ P)) → CarryOut means commands lines → HasBounds lines commands
  bounds_of [] commands h = ([], refl, subst (λ cs. Pairs cs []) (sym h) tt)
  bounds_of (line.Blank ∷ lines) commands (first, later, e, is, rest) =
      let (bounds, carry, pairs) = bounds_of lines later rest in
      (bounds, ([], bounds, refl, refl, carry), subst (λ cs. Pairs cs bounds) (sym (e ∙ ap (λ fs. fs ++ later) is)) pairs)
  bounds_of (line.Push n ∷ lines) commands (first, later, e, is, rest) = more (line.Push n) (Push n) (Push n) (λ old reply new h. h) refl lines first later commands e is (bounds_of lines later rest)
  bounds_of (line.Pop ∷ lines) commands (first, later, e, is, rest) = more line.Pop Pop Pop (λ old reply new h. h) refl lines first later commands e is (bounds_of lines later rest)
  bounds_of (line.Len ∷ lines) commands (first, later, e, is, rest) = more line.Len Len Len (λ old reply new h. h) refl lines first later commands e is (bounds_of lines later rest)
  bounds_of (line.Sorted n ∷ lines) commands (first, later, e, is, rest) =
      more (line.Sorted n) (DrainSorted n) (DrainSorted n) (λ old reply new h. h) refl lines first later commands e is (bounds_of lines later rest)
  bounds_of (line.Test n ∷ lines) commands (first, later, e, is, rest) =
      more (line.Test n) (Ask is.0) (Ask n) (ask n is.0 is.1) (n, refl, refl) lines first later commands e is.2 (bounds_of lines later rest)
  bounds_of (line.PopIf n ∷ lines) commands (first, later, e, is, rest) =
      more (line.PopIf n) (PopIf is.0) (PopIf n) (pop_if n is.0 is.1) (n, refl, refl) lines first later commands e is.2 (bounds_of lines later rest)
  bounds_of (line.Keep n ∷ lines) commands (first, later, e, is, rest) =
      more (line.Keep n) (Retain is.0) (Retain n) (retain n is.0 is.1) (n, refl, refl) lines first later commands e is.2 (bounds_of lines later rest)

  run_on : (old : List ℤ) (cs : List (Command ℤ P)) (bs : List (Command ℤ ℤ)) (replies : List (Reply ℤ)) (states : List (List ℤ)) → Pairs cs bs → Steps int_cmp calls old cs replies states →
      Steps int_cmp AsksAtLeast old bs replies states
  run_on old [] [] [] [] pairs h = tt
  run_on old [] (b ∷ bs) replies states pairs h = absurd pairs
  run_on old (c ∷ cs) [] replies states pairs h = absurd pairs
  run_on old (c ∷ cs) (b ∷ bs) (r ∷ rs) (s ∷ ss) pairs h = (pairs.0 old r s h.0, run_on s cs bs rs ss pairs.1 h.1)
  run_on old cs bs replies states pairs h = absurd h

-- what a call of `run` on an empty heap ensures, with the law last, and the replies as they are handed on
pub may_print_by : {P : Type 0} {calls : Mut P (Bor ℤ × Unit {0}) Bool} {means : ℤ → P → Type 0} {D : ℕ} {old new : Contents ℤ} {commands : List (Command ℤ P)} {replies shown : List (Reply ℤ)}
    (script : List ℕ) (lines : List Line)
    → Say (lines_of script) lines → CarryOut means commands lines → Runs int_cmp (CalledAt calls) D old commands replies new → old.items ≡ [] → shown ≡ replies
    → All (λ reply. is_some (answers_of.answer reply) ≡ true) shown
    → ((n : ℤ) (p : P) (x : ℤ) (a : Bool) (q : P) → means n p → CalledAt calls p x a q → (a ≡ int_le n x) × means n q)
    → MayPrint script (text shown)
may_print_by {P} {calls} {means} {D} {old} {new} {commands} {replies} {shown} script lines say carry runs none same whole law =
    let (bounds, told, pairs) = bounds_of (CalledAt calls) means law lines commands carry in
    let run : Steps int_cmp (CalledAt calls) [] commands shown runs.states =
    subst (λ items. Steps int_cmp (CalledAt calls) items commands shown runs.states) none (subst (λ rs. Steps int_cmp (CalledAt calls) old.items commands rs runs.states) (sym same) runs.run) in
    (lines, bounds, shown, runs.states, say, told, run_on (CalledAt calls) means law [] commands bounds shown runs.states pairs run, whole, refl)
