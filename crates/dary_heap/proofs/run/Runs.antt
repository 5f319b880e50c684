-- A run goes on by one command. What it asks of the caller, and the items that it brings in, are among those of all commands.
use Rattle.dary_heap.proofs.Common.{◌≡◌, ℕ, ◌+◌, ◌≤◌, Bool, List, [], ◌∷◌, ◌++◌, length, refl, ap, arith, Ordering, charge, Contents, Command, Reply, Step, Steps, last_state, IsState}
use Rattle.dary_heap.proofs.Common.{IsServed, KeepsCapacity, IsFull, CapacitySteps}
use Rattle.dary_heap.proofs.Common.{◌∙◌, Runs, Serves, room, sure_after, All, Contains, sym, subst, append_assoc, All-contains}
use Rattle.dary_heap.proofs.Common.{Contains-append_right, Mut, Bor, MayCall, MayServe, items_in, zero-le, Some, slice_get, slice_get_within, get_or_from_slice_get, IsSubBag}
use Rattle.dary_heap.proofs.Bags.{IsAmong-sub_bag, IsSubBag-append, IsSubBag-front, IsSubBag-trans}
use Rattle.dary_heap.proofs.sift.Written.{none_counted}
use Rattle.dary_heap.specs.Bounds.{charges}
use Rattle.dary_heap.specs.Run.{PushesServed, sure_at_end}
use Rattle.dary_heap.specs.Machine as machine

-- a run with one step more: the step, its state, its charge, and whether a push that is sure is served
module _ {T P : Type 0} (cmp : T → T → Ordering) (calls : P → T → Bool → P → Type 0) (D : ℕ) where
  more : (sure : ℕ) (old new : List T) (commands : List (Command T P)) (replies : List (Reply T)) (states : List (List T)) (command : Command T P) (reply : Reply T)
      → Steps cmp calls old commands replies states
      → Step cmp calls (last_state old states) command reply new
      → Steps cmp calls old (commands ++ command ∷ []) (replies ++ reply ∷ []) (states ++ new ∷ [])
      × (last_state old (states ++ new ∷ []) ≡ new)
      × (charges D old (commands ++ command ∷ []) (replies ++ reply ∷ []) (states ++ new ∷ []) ≡ charges D old commands replies states + charge D (length (last_state old states)) command reply
      (length new))
      × (PushesServed sure commands replies → IsServed (sure_at_end sure commands replies) command reply → PushesServed sure (commands ++ command ∷ []) (replies ++ reply ∷ []))
      × (sure_at_end sure (commands ++ command ∷ []) (replies ++ reply ∷ []) ≡ sure_after (sure_at_end sure commands replies) command reply)
  more sure old new [] [] [] command reply run step = ((step, tt), refl, omega arith, (λ served one. (one, tt)), refl)
  more sure old new (c ∷ commands) (r ∷ replies) (state ∷ states) command reply run step =
      let h = more (sure_after sure c r) state new commands replies states command reply run.1 step in
      ((run.0, h.0), h.1, omega (arith, h.2), (λ served one. (served.0, h.3 served.1 one)), h.4)
  more sure old new commands replies states command reply run step = absurd run

  -- and what it makes of the capacity
  more_capacity : (old new : List T) (from mid to : ℕ) (commands : List (Command T P)) (replies : List (Reply T)) (states : List (List T)) (command : Command T P) (reply : Reply T)
      → Steps cmp calls old commands replies states
      → CapacitySteps old from commands replies states mid
      → KeepsCapacity (length (last_state old states)) mid command reply (length new) to
      → IsFull (length (last_state old states)) mid command reply (length new)
      → CapacitySteps old from (commands ++ command ∷ []) (replies ++ reply ∷ []) (states ++ new ∷ []) to
  more_capacity old new from mid to [] [] [] command reply run same kept full = (to, rw same at kept, rw same at full, refl)
  more_capacity old new from mid to (c ∷ commands) (r ∷ replies) (state ∷ states) command reply run (next, first, told, rest) kept full =
      (next, first, told, more_capacity state new next mid to commands replies states command reply run.1 rest kept full)
  more_capacity old new from mid to commands replies states command reply run steps kept full = absurd run

module _ {T P : Type 0} where
  -- fewer pushes that are sure ask for less
  IsServed-fewer : (few many : ℕ) (command : Command T P) (reply : Reply T) → few ≤ many → IsServed many command reply → IsServed few command reply
  IsServed-fewer few many (machine.Push x) reply h served = λ some. served (omega arith)
  IsServed-fewer few many command reply h served = tt

  sure_after-fewer : (few many : ℕ) (command : Command T P) (reply : Reply T) → few ≤ many → sure_after few command reply ≤ sure_after many command reply
  sure_after-fewer few many (machine.Push x) reply h = omega arith
  sure_after-fewer few many (machine.Reserve n) machine.Done h = omega arith
  sure_after-fewer few many command reply h = first_of (search, search zero-le)

-- a run of a heap goes on by one command
module _ {T P : Type 0} {cmp : T → T → Ordering} {calls : P → T → Bool → P → Type 0} {D : ℕ} where
  pub Runs-begins : (heap : Contents T) → IsState cmp heap.items → Runs cmp calls D heap [] [] heap
  Runs-begins heap state =
      let none = none_counted heap.comparisons 0 in
      record { states = []; begins = state; run = tt; ends = refl; charged = none; served = tt; sure = omega arith; capacity = refl }

  pub Runs-more : {old mid new : Contents T} {commands : List (Command T P)} {replies : List (Reply T)} {command : Command T P} {reply : Reply T} → Runs cmp calls D old commands replies mid →
      Serves cmp calls D mid command reply new → Runs cmp calls D old (commands ++ command ∷ []) (replies ++ reply ∷ []) new
  Runs-more {old} {new = new} {commands} {replies} {command} {reply} runs serves =
      let h = more cmp calls D (room old) old.items new.items commands replies runs.states command reply runs.run (rw runs.ends serves.step) in
      let last = ap (λ xs. charge D (length xs) command reply (length new.items)) runs.ends in
      record {
        states = runs.states ++ new.items ∷ [];
        begins = runs.begins;
        run = h.0;
        ends = h.1;
        charged = record { rises = omega (arith, runs.charged.rises, serves.charged.rises); within = omega (arith, h.2, last, runs.charged.within, serves.charged.within) };
        served = h.3 runs.served (IsServed-fewer _ _ command reply runs.sure serves.served);
        sure = omega (arith, h.4, sure_after-fewer _ _ command reply runs.sure, serves.sure);
        capacity = more_capacity cmp calls D old.items new.items old.capacity _ new.capacity commands replies runs.states command reply runs.run runs.capacity (rw runs.ends serves.kept)
            (rw runs.ends serves.full);
      }

module _ {T P : Type 0} where
  items_in-append : (xs ys : List (Command T P)) → items_in (xs ++ ys) ≡ items_in xs ++ items_in ys
  items_in-append [] ys = refl
  items_in-append (machine.Push x ∷ xs) ys = ap (λ zs. x ∷ zs) (items_in-append xs ys)
  items_in-append (command ∷ xs) ys = first_of (simp (items_in-append xs ys), simp (items_in-append xs ys, append_assoc))

  -- what came from a heap and the commands before comes from it and all of them
  came_before : (old items : List T) (before after : List (Command T P)) → IsSubBag items (old ++ items_in before) → IsSubBag items (old ++ items_in (before ++ after))
  came_before old items before after came =
      let whole = append_assoc old (items_in before) (items_in after) ∙ ap (λ xs. old ++ xs) (sym (items_in-append before after)) in
      subst (IsSubBag items) whole (IsSubBag-trans items _ _ came (IsSubBag-front (old ++ items_in before) (items_in after)))

  -- what one command makes of items that came from a heap and the commands before
  pub came_with : (old items new : List T) (before : List (Command T P)) (command : Command T P) → IsSubBag items (old ++ items_in before) →
      IsSubBag new (items ++ items_in (command ∷ [])) → IsSubBag new (old ++ items_in (before ++ command ∷ []))
  came_with old items new before command came now =
      let more = items_in (command ∷ []) in
      let whole = append_assoc old (items_in before) more ∙ ap (λ xs. old ++ xs) (sym (items_in-append before (command ∷ []))) in
      subst (IsSubBag new) whole (IsSubBag-trans new _ _ now (IsSubBag-append items (old ++ items_in before) more came))

  module _ (calls : Mut P (Bor T × Unit {0}) Bool) where
    -- the predicate of one command may be called on the front and on each item in turn, if that of each may be on what the heap and all of them hold
    pub callable_one : (old items : List T) (before : List (Command T P)) (command : Command T P) (after : List (Command T P)) → IsSubBag items (old ++ items_in before) →
        All (MayCall calls (old ++ items_in (before ++ (command ∷ after)))) (before ++ (command ∷ after)) → MayServe calls items command
    callable_one old items before command after came h =
        let pool = old ++ items_in (before ++ (command ∷ after)) in
        let among : IsSubBag items pool = came_before old items before (command ∷ after) came in
        let there : Contains (before ++ (command ∷ after)) command = Contains-append_right before (command ∷ after) command (0, omega arith, refl) in
        let may = All-contains (MayCall calls pool) _ command h there in
        let held = IsAmong-sub_bag pool items pool among (λ x in'. in') in
        let on_front : (x : T) → slice_get items 0 ≡ Some x → Contains pool x = λ x is. held x (0, slice_get_within items 0 x is, get_or_from_slice_get items 0 x x is) in
        record {
          pop_if = λ p is x first. may.pop_if p is x (on_front x first);
          ask = λ p is x first. may.ask p is x (on_front x first);
          retain = λ p is. (may.retain p is).in_turn items among;
        }
