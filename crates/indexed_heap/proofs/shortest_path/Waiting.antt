-- Nodes that wait: no more than there are, and what a raise makes of them.
use Rattle.dary_heap.proofs.Common.{◌≡◌, ◌≢◌, ◌⊎◌, ℕ, suc, ◌+◌, ◌<◌, ◌≤◌, inl, inr, List, [], ◌∷◌, ◌++◌, length, map, Contains, arith, refl, sym, ap, ◌∙◌, subst, get_or, get_or-set_same}
use Rattle.dary_heap.proofs.Common.{get_or-set_other, cases_eq, set, slice_get, length-set, length-map, length_permutation, IsPermutation-sym, IsSameBag, Option, Some, None, slice_get-get_or, nat_eq, false}
use Rattle.dary_heap.proofs.Common.{AllByRecursion, IsDistinct, IsDistinct-cons, ne_eqb, eqb-true, nat_cmp, true}
use Rattle.dary_heap.proofs.Bags.{Contains-cases, came_first, came_later, came_cases}
use Rattle.dary_heap.proofs.Callers.{All-mapped, nat_le_from_cmp}
use Rattle.std.proofs.Common.{Bool, length-append}
use Rattle.std.proofs.lemmas.List.Elements.{All-contains, Contains-append_right}
use Rattle.std.proofs.lemmas.Map.Steps.{length-le_from_distinct_below}
use Rattle.std.proofs.lemmas.Map.Views.{Contains-from_any}
use Rattle.std.specs.Bool.{OnTrue, OnFalse}
use Rattle.std.specs.declared.cmp.Ordering.{Ordering}
use Rattle.indexed_heap.proofs.Callers.{item_of-none, item_of-there, one_item}
use Rattle.indexed_heap.specs.Entries.{AreDistinct, Gets, Indexed, IsAbsent, IsEntry, IsReached, Raises, by_item, entries_of, item_of}
use Rattle.indexed_heap.specs.Lowering.{HasSameRoom, IsReady, Waits}

abbrev pub Entry : Type 0
Entry = ℕ × ℕ

-- what a list has after a function went over it
pub Contains-map_cases : {X Y : Type 0} (f : X → Y) (xs : List X) (y : Y) → Contains (map f xs) y → (x : X) × Contains xs x × (f x ≡ y)
Contains-map_cases {X} {Y} f xs y h =
    let P : Y → Type 0 = λ y. (x : X) × Contains xs x × (f x ≡ y) in
    All-contains P (map f xs) y (All-mapped P f xs (λ x in'. (x, in', refl))) h

-- entries are distinct by whatever tells their keys apart
module _ {Y : Type 0} (f : Entry → Y) (eq : Y → Y → Bool) (differ : (d e : Entry) → d.0 ≢ e.0 → eq (f d) (f e) ≡ false) where
  apart : (d : Entry) (rest : List Entry) → IsAbsent d.0 rest → AllByRecursion (λ y. eq (f d) y ≡ false) (map f rest)
  apart d [] h = tt
  apart d (e ∷ rest) h = (differ d e (λ same. h.none 0 e refl (sym same)), apart d rest record { none = λ i x at. h.none (suc i) x at })

  pub distinct_by : (entries : List Entry) → AreDistinct entries → IsDistinct eq (map f entries)
  unfolding IsDistinct
  distinct_by [] h = tt
  distinct_by (e ∷ rest) h =
      let absent : IsAbsent e.0 rest = record { none = λ i d at same. let no : suc i ≡ 0 = h.once (suc i) 0 d e at refl same in omega arith } in
      let others : AreDistinct rest = record { once = λ i j a b at there same. let next : suc i ≡ suc j = h.once (suc i) (suc j) a b at there same in omega arith } in
      IsDistinct-cons eq (f e) (map f rest) (apart e rest absent) (distinct_by rest others)

  pub distinct_with : (d : Entry) (rest : List Entry) → IsAbsent d.0 rest → AreDistinct rest → IsDistinct eq (f d ∷ map f rest)
  distinct_with d rest absent h = IsDistinct-cons eq (f d) (map f rest) (apart d rest absent) (distinct_by rest h)

-- numbers below n of which no two are the same are at most n
pub distinct_few : (n : ℕ) (nodes : List ℕ) → IsDistinct nat_eq nodes → ((v : ℕ) → Contains nodes v → v < n) → length nodes ≤ n
distinct_few n nodes distinct within = length-le_from_distinct_below nodes n distinct (λ q found. within q (Contains-from_any eqb-true q nodes found))

module _ {limit : ℕ} {found : List ℕ} {heap : Indexed ℕ} (ready : IsReady limit found heap) where
  abbrev key : Entry → ℕ
  key e = e.0

  keys_within : (q : ℕ) → Contains (map key heap.entries) q → q < length found
  keys_within q h = let e = Contains-map_cases key heap.entries q h in subst (λ (x : ℕ). x < length found) e.2 (ready.within e.0 e.1)

  -- no more nodes wait than there are
  pub all_few : length heap.entries ≤ length found
  all_few = omega (arith, distinct_few (length found) (map key heap.entries) (distinct_by key nat_eq (λ d e. ne_eqb d.0 e.0) heap.entries ready.distinct) keys_within, length-map heap.entries key)

  -- a node waits, or the heap has room for it, since fewer wait than there are
  room_of : (node : ℕ) → node < length found → (held : Option ℕ) → item_of node heap.entries ≡ held → ((at : ℕ) × IsEntry heap.entries at node) ⊎ (length heap.entries < heap.capacity)
  room_of node here None is =
      let differ = distinct_with key nat_eq (λ d e. ne_eqb d.0 e.0) (node, 0) heap.entries (item_of-none node heap.entries is) ready.distinct in
      let below : (q : ℕ) → Contains (node ∷ map key heap.entries) q → q < length found = λ q h. elim (Contains-cases node (map key heap.entries) q h) [
        | inl same ↦ subst (λ (x : ℕ). x < length found) same here
        | inr later ↦ keys_within q later
      ] in
      inr (omega (arith, ready.room, distinct_few (length found) (node ∷ map key heap.entries) differ below, length-map heap.entries key))
  room_of node here (Some cost) is =
      let in' = item_of-there node heap.entries cost is in
      inl (in'.0, record { entry = (node, cost); there = slice_get-get_or heap.entries in'.0 (node, cost) in'.1 ∙ ap Some in'.2; has = refl })

  pub has_room : (node : ℕ) → node < length found → ((at : ℕ) × IsEntry heap.entries at node) ⊎ (length heap.entries < heap.capacity)
  has_room node here = room_of node here (item_of node heap.entries) refl

-- ---- a node that waits with another cost

module _ {node cost : ℕ} {old new : List Entry} where
  pub came : (given : Option ℕ) → Gets node cost old given new → (e : Entry) → Contains new e → ((node, cost) ≡ e) ⊎ Contains old e
  came given w e h = came_cases (node, cost) old (entries_of node given ++ new) e w.bag (Contains-append_right (entries_of node given) new e h)

  pub kept : (given : Option ℕ) → Gets node cost old given new → (e : Entry) → Contains old e → Contains new e ⊎ (e.0 ≡ node)
  kept None w e h = inl (came_later (node, cost) old new e w.bag h)
  kept (Some less) w e h = elim (Contains-cases (node, less) new e (came_later (node, cost) old ((node, less) ∷ new) e w.bag h)) [
    | inl is ↦ inr (sym (ap (λ (e : Entry). e.0) is))
    | inr left ↦ inl left
  ]

  pub longer : (given : Option ℕ) → Gets node cost old given new → length new ≤ length old + 1
  longer given w = omega (arith, length_permutation ((node, cost) ∷ old) (entries_of node given ++ new) w.bag, length-append (entries_of node given) new)

-- what is ready stays so
pub stays_ready : {limit node cost : ℕ} {found : List ℕ} {old new : Indexed ℕ} → IsReady limit found old → node < length found → Waits node cost old.entries new.entries → AreDistinct new.entries →
    old.capacity ≤ new.capacity → old.keys ≤ new.keys → IsReady limit (set found node cost) new
stays_ready {limit} {node} {cost} {found} {old} {new} ready here w distinct capacity keys =
    let long : length (set found node cost) ≡ length found = length-set found node cost in
    record {
      room = omega (arith, ready.room, long);
      keyed = omega (arith, ready.keyed, long);
      distinct = distinct;
      within = λ e h. elim (came w.0 w.1 e h) [
        | inl is ↦ rw long (subst (λ (e : Entry). e.0 < length found) is here)
        | inr before ↦ rw long (ready.within e before)
      ];
      exact = λ e h. elim (cases_eq e.0 node) [
        | inl is ↦
            let there : Contains new.entries (node, e.1) = subst (λ (v : ℕ). Contains new.entries (v, e.1)) is h in
            let it : cost ≡ e.1 = one_item node new.entries cost e.1 distinct w.1.has there in
            subst (λ (v : ℕ). get_or (set found node cost) v limit ≡ e.1) (sym is) (get_or-set_same found node cost limit here ∙ it)
        | inr ne ↦ elim (came w.0 w.1 e h) [
          | inl is ↦ absurd (ne (sym (ap (λ (e : Entry). e.0) is)))
          | inr before ↦ get_or-set_other found node e.0 cost limit ne ∙ ready.exact e before
        ]
      ];
    }

-- a raise to a cost that is lower than what was found for the node
pub raised : {limit node cost : ℕ} {found : List ℕ} {old : Indexed ℕ} {new : List Entry} → let order : Entry → Entry → Ordering = by_item (λ x y. nat_cmp y x) in
    IsReady limit found old → cost < get_or found node limit → (b : Bool)
    → OnTrue b (Raises order node cost old.entries new) → OnFalse b (IsReached order node cost old.entries × (new ≡ old.entries))
    → Waits node cost old.entries new
raised ready lower true gets had = (gets.given, gets.gets)
raised {limit} {node} {cost} {found} ready lower false gets had =
    let exact : get_or found node limit ≡ had.0.held = ready.exact (node, had.0.held) had.0.has in
    absurd (omega (arith, exact, lower, nat_le_from_cmp had.0.held cost had.0.under))

-- a node is taken
module _ {limit : ℕ} {found : List ℕ} {old : Indexed ℕ} {new : List Entry} {e : Entry} (ready : IsReady limit found old) (bag : IsSameBag old.entries (e ∷ new)) where
  back : IsSameBag (e ∷ new) old.entries
  back = IsPermutation-sym old.entries (e ∷ new) bag

  pub taken_within : e.0 < length found
  taken_within = ready.within e (came_first e new old.entries back)

  pub taken_exact : get_or found e.0 limit ≡ e.1
  taken_exact = ready.exact e (came_first e new old.entries back)

-- the goal is taken
pub found_here : {limit goal : ℕ} {found : List ℕ} {old : Indexed ℕ} {new : List Entry} {e : Entry} → IsReady limit found old → IsSameBag old.entries (e ∷ new) → e.0 ≡ goal →
    slice_get found goal ≡ Some e.1
found_here {limit} {goal} {found} {e = e} ready bag is =
    slice_get-get_or found goal limit (subst (λ (v : ℕ). v < length found) is (taken_within ready bag)) ∙ ap Some (ap (λ (v : ℕ). get_or found v limit) (sym is) ∙ taken_exact ready bag)

pub taken_ready : {limit : ℕ} {found : List ℕ} {old new : Indexed ℕ} {e : Entry} → IsReady limit found old → IsSameBag old.entries (e ∷ new.entries) → AreDistinct new.entries → HasSameRoom old new →
    IsReady limit found new
taken_ready {old = old} {new} {e} ready bag distinct same = record {
  room = omega (arith, ready.room, same.capacity);
  keyed = omega (arith, ready.keyed, same.keys);
  distinct = distinct;
  within = λ x h. ready.within x (came_later e new.entries old.entries x (back ready bag) h);
  exact = λ x h. ready.exact x (came_later e new.entries old.entries x (back ready bag) h);
}

pub same_room : {old mid new : Indexed ℕ} → HasSameRoom old mid → HasSameRoom mid new → HasSameRoom old new
same_room a b = record { capacity = b.capacity ∙ a.capacity; keys = b.keys ∙ a.keys }
