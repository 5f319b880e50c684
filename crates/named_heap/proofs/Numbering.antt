-- A name gets an item, by its number, which may be new.
use Rattle.dary_heap.proofs.Common.{◌≡◌, ◌≢◌, ℕ, ◌+◌, ◌<◌, ◌≤◌, Bool, true, List, [], ◌∷◌, ◌++◌, length, refl, sym, ap, ◌∙◌, subst, arith, inl, inr, Option, Some, None, IfNone, is_some, slice_get}
use Rattle.dary_heap.proofs.Common.{slice_get-get_or, slice_get_within, cases_eq, cases_lt, ne_eqb, true≢false}
use Rattle.dary_heap.proofs.Common.{Contains, IsPermutation, Ordering, RisesWithin, fix_bound, push_bound, length-append}
use Rattle.dary_heap.proofs.Cancelling.{IsPermutation-flat_map}
use Rattle.dary_heap.proofs.Order.{slice_get-append, slice_get-push}
use Rattle.dary_heap.proofs.Common.{false, if◌then◌else◌, OnFalse}
use Rattle.indexed_heap.proofs.AsMap.{Gets-given, item_of-has, none_there}
use Rattle.indexmap.specs.IndexSet.{IndexSet, insert_key, spare}
use Rattle.std.specs.Prelude.{IsSome, max}
use Rattle.std.specs.Bool.{OnTrue}
use Rattle.std.specs.List.{list_any}
use Rattle.std.specs.Cmp.{IsEquivalence}
use Rattle.std.specs.List.{IsDistinct}
use Rattle.std.specs.Map.{lookup}
use Rattle.indexed_heap.proofs.AsMap.{Gets-here, Gets-others, item_of-none}
use Rattle.indexed_heap.specs.Entries as idx
use Rattle.indexed_heap.specs.Entries.{Indexed, IsEntry, item_of}
use Rattle.named_heap.specs.Entries.{Gets, InsertsWithin, IsReached, Raises, entries_of}
use Rattle.named_heap.specs.Names.{AreKeyed, AreNamed, HasRoomFor, Numbers, entry_of, named, room_of, seen}
use Rattle.named_heap.specs.Storing.{Stores}
use Rattle.named_heap.proofs.Storing.{stores_it, stores_nothing}
use Rattle.std.specs.declared.result.Result.TheVariants.{Ok, Err}
use Rattle.named_heap.proofs.Counting.{entry_of_name}
use Rattle.named_heap.proofs.Naming.{alone, contains_at, keyed_from, keyed_later, length-named, lookup-named, lookup-none, lookup_missing, named_first, named_from, named_there, none_passes}

-- what the set of names does when a name is inserted
pub numbered : {K : Type 0} {eq : K → K → Bool} (name : K) (key : ℕ) (names more : List K) → more ≡ insert_key eq names name → key < length more → (k : K) → slice_get more key ≡ Some k →
    eq name k ≡ true → Numbers eq name key names more
numbered {K} {eq} name key names more keys inside k there same = by (list_any (eq name) names) refl
  where
    by : (b : Bool) → list_any (eq name) names ≡ b → Numbers eq name key names more
    by true is = record {
      stored = k;
      there = there;
      same = same;
      either = inl (keys ∙ ap (λ (b : Bool). if b then names else names ++ name ∷ []) is);
    }
    by false is =
        let shape : more ≡ names ++ name ∷ [] = keys ∙ ap (λ (b : Bool). if b then names else names ++ name ∷ []) is in
        let here : slice_get (names ++ name ∷ []) key ≡ Some k = ap (λ (l : List K). slice_get l key) (sym shape) ∙ there in
        let long : length more ≡ length (names ++ name ∷ []) = ap (λ (l : List K). length l) shape in
        let last : key ≡ length names = elim (cases_lt key (length names)) [
          | inl low ↦ absurd (true≢false (sym same ∙ none_passes (eq name) names key k is (sym (slice_get-append names (name ∷ []) key low) ∙ here)))
          | inr past ↦ omega (arith, past, inside, long, length-append names (name ∷ []))
        ] in
        let at_last : slice_get (names ++ name ∷ []) key ≡ Some name = ap (slice_get (names ++ name ∷ [])) last ∙ slice_get-push names name in
        let is_name : k ≡ name = cc in
        record { stored = k; there = there; same = same; either = inr (shape, is_name, last, is) }

module _ {K T : Type 0} {eq : K → K → Bool} {cmp : T → T → Ordering} {D : ℕ} (laws : IsEquivalence eq) (name : K) (key : ℕ) (names more : List K) (n : Numbers eq name key names more)
    (old : List (ℕ × T)) (h : AreNamed eq cmp D names old) where
  pub keeps : (j : ℕ) → j < length names → slice_get more j ≡ slice_get names j
  keeps j low = elim n.either [
    | inl same ↦ ap (λ (l : List K). slice_get l j) same
    | inr new ↦ ap (λ (l : List K). slice_get l j) new.0 ∙ slice_get-append names (name ∷ []) j low
  ]

  pub longer : length names ≤ length more
  longer = elim n.either [
    | inl same ↦ (let long : length more ≡ length names = ap (λ (l : List K). length l) same in omega (arith, long))
    | inr new ↦ (let long : length more ≡ length (names ++ name ∷ []) = ap (λ (l : List K). length l) new.0 in omega (arith, long, length-append names (name ∷ [])))
  ]

  low_or_key : (j : ℕ) → j < length more → j ≢ key → j < length names
  low_or_key j inside apart = elim n.either [
    | inl same ↦ (let long : length more ≡ length names = ap (λ (l : List K). length l) same in omega (arith, inside, long))
    | inr new ↦ (let long : length more ≡ length (names ++ name ∷ []) = ap (λ (l : List K). length l) new.0 in let last : key ≡ length names = new.2 in
        omega (arith, inside, long, length-append names (name ∷ []), last, apart))
  ]

  keyed : AreKeyed names old
  keyed = keyed_from names old h.bare

  named_more : (entries : List (ℕ × T)) → AreKeyed names entries → named more entries ≡ named names entries
  named_more [] low = refl
  named_more (e ∷ entries) low = λ k. entry_of (keeps e.0 (low 0 e refl) k) e.1 ++ named_more entries (keyed_later names e entries low) k

  -- entries that stay keep their names
  pub named_same : named more old ≡ named names old
  named_same = named_more old keyed

  -- the name's item is that of its number
  pub lookup_key : lookup (eq name) (named names old) ≡ item_of key old
  lookup_key = elim n.either [
    | inl same ↦ lookup-named names (eq name) key (alone laws names h.unique (eq name) (laws.congr name) key n.stored (sym (ap (λ (l : List K). slice_get l key) same) ∙ n.there) n.same) old keyed
    | inr new ↦
        let past : length names ≤ key = omega (arith, new.2) in
        lookup-none names (eq name) (λ j other at. none_passes (eq name) names j other new.3 at) old keyed ∙ sym (h.bare key past)
  ]

  -- a number with no item is new
  pub is_new : item_of key old ≡ None → (more ≡ names ++ name ∷ []) × (n.stored ≡ name) × (key ≡ length names)
  is_new none = elim n.either [
    | inl same ↦
        let long : length more ≡ length names = ap (λ (l : List K). length l) same in
        let low : key < length names = omega (arith, slice_get_within more key n.stored n.there, long) in
        absurd (true≢false (sym (h.held key low) ∙ ap is_some none))
    | inr new ↦ (new.0, new.1, new.2)
  ]

  module _ (item : T) (new : List (ℕ × T)) (bare : (i : ℕ) → length more ≤ i → item_of i new ≡ None) where
    both : named more ((key, item) ∷ old) ≡ (n.stored, item) ∷ named names old
    both = named_first more (key, item) old n.stored n.there ∙ ap (λ (l : List (K × T)). (n.stored, item) ∷ l) named_same

    pub named_bag : (given : Option T) → idx.Gets key item old given new → IsPermutation ((n.stored, item) ∷ named names old) (entries_of n.stored given ++ named more new)
    named_bag None gets = subst (λ (l : List (K × T)). IsPermutation l (named more new)) both
        (IsPermutation-flat_map (λ (e : ℕ × T). entry_of (slice_get more e.0) e.1) ((key, item) ∷ old) new gets.bag)
    named_bag (Some x) gets =
        subst (λ (l : List (K × T)). IsPermutation ((n.stored, item) ∷ named names old) l) (named_first more (key, x) new n.stored n.there)
        (subst (λ (l : List (K × T)). IsPermutation l (named more ((key, x) ∷ new))) both
        (IsPermutation-flat_map (λ (e : ℕ × T). entry_of (slice_get more e.0) e.1) ((key, item) ∷ old) ((key, x) ∷ new) gets.bag))

    fresh : (given : Option T) → given ≡ item_of key old → IfNone given ((n.stored ≡ name) × (lookup (eq name) (named names old) ≡ None))
    fresh None is = ((is_new (sym is)).1, lookup_key ∙ sym is)
    fresh (Some x) is = tt

    pub named_gets : (given : Option T) → idx.Gets key item old given new → given ≡ item_of key old → Gets eq name item (named names old) given (named more new)
    named_gets given gets is =
        let has : Contains new (key, item) = gets.has in
        let there : slice_get new has.0 ≡ Some (key, item) = slice_get-get_or new has.0 (key, item) has.1 ∙ ap Some has.2 in
        record {
          stored = n.stored;
          same = n.same;
          bag = named_bag given gets;
          absent = fresh given is;
          has = contains_at (named more new) has.0 (n.stored, item) (named_there more new (keyed_from more new bare) has.0 (key, item) n.stored there n.there);
        }

  -- the numbers are keys again
  pub gets_named : IsDistinct eq more → (item : T) (new : List (ℕ × T)) (given : Option T) → idx.AreSound cmp D new → idx.Gets key item old given new → AreNamed eq cmp D more new
  gets_named unique item new given sound gets = record {
    unique = unique;
    sound = sound;
    held = λ i inside. elim (cases_eq i key) [
      | inl is ↦ ap (λ (k : ℕ). is_some (item_of k new)) is ∙ ap is_some (Gets-here key item old new given gets sound.distinct)
      | inr apart ↦ ap is_some (Gets-others key item old new given gets sound.distinct i apart) ∙ h.held i (low_or_key i inside apart)
    ];
    bare = λ i past.
        let inside : key < length more = slice_get_within more key n.stored n.there in
        Gets-others key item old new given gets sound.distinct i (λ e. absurd (omega (arith, e, past, inside))) ∙ h.bare i (omega (arith, past, longer));
  }

  -- comparisons of an insert
  pub named_within : (before after : ℕ) → idx.InsertsWithin D key old before after → InsertsWithin eq name D (named names old) before after
  named_within before after counted = record {
    new = λ none. subst (λ (m : ℕ). RisesWithin before after (push_bound D m)) (sym (length-named names old keyed)) (counted.new (item_of-none key old (sym lookup_key ∙ none)));
    held = λ at entry there passes.
        let e = named_from names old keyed at entry there in
        let is : e.0.0 ≡ key = elim n.either [
          | inl same ↦ elim (cases_eq e.0.0 key) [
            | inl is ↦ is
            | inr apart ↦ absurd (true≢false (sym passes ∙ alone laws names h.unique (eq name) (laws.congr name) key n.stored (sym (ap (λ (l : List K). slice_get l key) same) ∙ n.there) n.same
                e.0.0 entry.0 e.2 ∙ ne_eqb e.0.0 key apart))
          ]
          | inr new ↦ absurd (true≢false (sym passes ∙ none_passes (eq name) names e.0.0 entry.0 new.3 e.2))
        ] in
        subst (λ (m : ℕ). RisesWithin before after (fix_bound D m at)) (sym (length-named names old keyed)) (counted.held at (record { entry = e.0; there = e.1; has = is }));
  }

  -- one name more at most
  pub length_more : length more ≤ length names + 1
  length_more = elim n.either [
    | inl same ↦ (let long : length more ≡ length names = ap (λ (l : List K). length l) same in omega (arith, long))
    | inr new ↦ (let long : length more ≡ length (names ++ name ∷ []) = ap (λ (l : List K). length l) new.0 in omega (arith, long, length-append names (name ∷ [])))
  ]

  -- there is an entry of the number, or room for one
  pub has_room : {P : Type 0} (heap : Indexed T) → heap.entries ≡ old → HasRoomFor key names heap → ((at : ℕ) → IsEntry heap.entries at key → P) → (length heap.entries < heap.capacity →
      key < heap.keys → P) → P
  has_room heap same room present succeeds = elim room [
    | inl low ↦ (let there = entry_of_name names old h key low in present there.0 (subst (λ (l : List (ℕ × T)). IsEntry l there.0 key) (sym same) there.1))
    | inr some ↦ succeeds some.0 some.1
  ]

  -- a name that has an item has a number
  pub same_names : (x : T) → Contains old (key, x) → more ≡ names
  same_names x in' = elim n.either [
    | inl same ↦ same
    | inr new ↦ (let past : length names ≤ key = omega (arith, new.2) in absurd (none_there key old x (item_of-none key old (h.bare key past)) in'))
  ]

  -- a raise or, by the other order, a lowering
  module _ (order : T → T → Ordering) (item : T) (new : List (ℕ × T)) where
    pub raise_named : (b : Bool) → OnTrue b (idx.Raises (idx.by_item order) key item old new) → OnFalse b (idx.IsReached (idx.by_item order) key item old × (new ≡ old)) → idx.AreSound cmp D new →
        IsDistinct eq more → AreNamed eq cmp D more new
    raise_named true raised reached sound unique = gets_named unique item new raised.given sound raised.gets
    raise_named false raised reached sound unique =
        subst (λ (l : List K). AreNamed eq cmp D l new) (sym (same_names reached.0.held reached.0.has)) (subst (λ (l : List (ℕ × T)). AreNamed eq cmp D names l) (sym reached.1) h)

    pub raised_named : (b : Bool) → AreNamed eq cmp D more new → OnTrue b (idx.Raises (idx.by_item order) key item old new) → OnTrue b (Raises eq name order item (named names old) (named more new))
    raised_named true are raised = record {
      given = raised.given;
      gets = named_gets item new are.bare raised.given raised.gets (Gets-given key item old new raised.given raised.gets h.sound.distinct);
      exceeds = raised.exceeds;
    }
    raised_named false are raised = tt

    pub reached_named : (b : Bool) → OnFalse b (idx.IsReached (idx.by_item order) key item old × (new ≡ old)) →
        OnFalse b (IsReached eq name order item (named names old) × (named more new ≡ named names old))
    reached_named true reached = tt
    reached_named false reached = (
      record { held = reached.0.held; has = lookup_key ∙ item_of-has key old reached.0.held h.sound.distinct reached.0.has; under = reached.0.under },
      λ i. named (same_names reached.0.held reached.0.has i) (reached.1 i),
    )

-- a name that has an item keeps the room: its number is there, and so is its entry
module _ {K T S : Type 0} {eq : K → K → Bool} {cmp : T → T → Ordering} {D : ℕ} (laws : IsEquivalence eq) (name : K) (key : ℕ) (names more : IndexSet K S) (n : Numbers eq name key names.keys more.keys)
    (old mid new : Indexed T) (h : AreNamed eq cmp D names.keys old.entries) where
  pub same_room : (list_any (eq name) names.keys ≡ true → (more ≡ names) × (mid ≡ old)) → length new.entries ≡ length mid.entries + (if is_some (item_of key mid.entries) then 0 else 1) →
      ((at : ℕ) → IsEntry mid.entries at key → new.capacity ≡ mid.capacity) → new.keys ≡ max mid.keys (key + 1) → IsSome (lookup (eq name) (named names.keys old.entries)) →
      room_of more new ≡ room_of names old
  same_room kept len roomy widened some =
      let listed : list_any (eq name) names.keys ≡ true = by (list_any (eq name) names.keys) refl in
      let same = kept listed in
      let long : length more.keys ≡ length names.keys = ap (λ (s : IndexSet K S). length s.keys) same.0 in
      let low : key < length names.keys = omega (arith, slice_get_within more.keys key n.stored n.there, long) in
      let there = entry_of_name names.keys old.entries h key low in
      let capacity : new.capacity ≡ mid.capacity = roomy there.0 (subst (λ (l : List (ℕ × T)). IsEntry l there.0 key) (sym (ap (λ (i : Indexed T). i.entries) same.1)) there.1) in
      let has : is_some (item_of key mid.entries) ≡ true = ap (λ (i : Indexed T). is_some (item_of key i.entries)) same.1 ∙ h.held key low in
      let count : length new.entries ≡ length mid.entries + 0 = len ∙ ap (λ (b : Bool). length mid.entries + (if b then 0 else 1)) has in
      omega (
        arith,
        ap (λ (s : IndexSet K S). spare s) same.0,
        long,
        low,
        capacity,
        count,
        widened,
        ap (λ (i : Indexed T). i.capacity) same.1,
        ap (λ (i : Indexed T). i.keys) same.1,
        ap (λ (i : Indexed T). length i.entries) same.1,
      )
    where
      by : (b : Bool) → list_any (eq name) names.keys ≡ b → list_any (eq name) names.keys ≡ true
      by true is = is
      by false is = absurd (true≢false (sym some ∙ ap is_some (lookup_missing names.keys old.entries h laws (eq name) is)))

-- the calls that number a name, and then store its item
module _ {K T S : Type 0} {eq : K → K → Bool} {cmp : T → T → Ordering} {D : ℕ} (laws : IsEquivalence eq) (name : K) (item : T) (names more : IndexSet K S)
    (old mid : Indexed T) (h : AreNamed eq cmp D names.keys old.entries) (spared : spare names ≤ spare more + 1) (capacity : old.capacity ≤ mid.capacity) (keys : old.keys ≤ mid.keys)
    (entries : mid.entries ≡ old.entries) where
  stayed : length mid.entries ≡ length old.entries
  stayed = ap (λ (l : List (ℕ × T)). length l) entries

  -- a name without a number stores nothing
  pub not_numbered : {A : Type 0} (back : K) → back ≡ name → list_any (eq name) names.keys ≡ false → (0 < room_of names old → false ≡ true) → more.keys ≡ names.keys →
      mid.comparisons ≡ old.comparisons → Stores {A = A} eq name item (seen names old) (seen more mid) (Err (back, item))
  not_numbered back is absent full same uncounted =
      let long : length more.keys ≡ length names.keys = ap (λ (l : List K). length l) same in
      stores_nothing name item (seen names old) (seen more mid) (back, item) (ap (λ (k : K). (k, item)) is) (lookup_missing names.keys old.entries h laws (eq name) absent)
      (λ some. true≢false (sym (full some))) (λ i. named (same i) (entries i)) uncounted (omega (arith, long, stayed, spared, capacity, keys))

  -- and what is stored for its number is stored for the name
  pub numbered_stores : {A : Type 0} (key : ℕ) → Numbers eq name key names.keys more.keys → (new : Indexed T) → (list_any (eq name) names.keys ≡ true → (more ≡ names) × (mid ≡ old)) →
      length new.entries ≡ length mid.entries + (if is_some (item_of key mid.entries) then 0 else 1) → mid.capacity ≤ new.capacity → mid.keys ≤ new.keys →
      ((at : ℕ) → IsEntry mid.entries at key → new.capacity ≡ mid.capacity) → new.keys ≡ max mid.keys (key + 1) → (given : A) →
      Stores eq name item (seen names old) (seen more new) (Ok given)
  numbered_stores key n new kept len grown wider roomy widened given =
      let one : (b : Bool) → (if b then 0 else 1) ≤ 1 = elim [ true ↦ omega arith | false ↦ omega arith ] in
      let few = one (is_some (item_of key mid.entries)) in
      let long = length_more laws name key names.keys more.keys n old.entries h in
      stores_it name item (seen names old) (seen more new) given (omega (arith, few, long, len, stayed, spared, capacity, keys, grown, wider))
      (same_room laws name key names more n old mid new h kept len roomy widened)
