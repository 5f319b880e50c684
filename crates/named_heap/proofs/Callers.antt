-- What callers need besides the contracts: the entries read as a map, and what each change of them makes of it.
use denote.Ref.{Bor}
use Rattle.dary_heap.proofs.Common.{◌≡◌, ◌≢◌, Bool, true, false, List, ◌∷◌, ◌++◌, refl, sym, ap, ◌∙◌, inl, inr, Option, Some, None, is_some, if◌then◌else◌, true≢false, Contains, Contains-permutation}
use Rattle.dary_heap.proofs.Common.{IsPermutation, IsPermutation-sym, IsDistinct-IsPermutation}
use Rattle.dary_heap.proofs.Common.{subst, slice_get, Ordering, Greater, IsGreatest}
use Rattle.dary_heap.proofs.Callers.{Contains-cases, Contains-later, front_cases, holds_none, pop_if_no}
use Rattle.std.proofs.lemmas.List.Sorted.{IsPermutation-map}
use Rattle.std.proofs.lemmas.Map.{lookup-none}
use Rattle.std.proofs.lemmas.Map.Entries.{lookup_from_place, none_past_head, place_from_lookup}
use Rattle.std.proofs.lemmas.Option.{slice_get-get_or}
use Rattle.std.specs.Cmp.{IsEquivalence}
use Rattle.std.specs.List.{IsDistinct}
use Rattle.std.specs.Map.{IsKeyTest, keys_of, lookup}
use Rattle.indexmap.proofs.MapLemmas.{lookup_permutation}
use Rattle.named_heap.specs.Entries.{Gets, by_item, entries_of}
use Rattle.named_heap.proofs.Naming.{contains_at}

module _ {K T : Type 0} {eq : K → K → Bool} (laws : IsEquivalence eq) where
  same_test : (a b : K) → eq a b ≡ true → (entries : List (K × T)) → lookup (eq a) entries ≡ lookup (eq b) entries
  same_test a b h entries = ap (λ (t : K → Bool). lookup t entries) (λ i x. laws.congr a b x h i)

  -- an entry is found by each equal name
  pub lookup_there : (entries : List (K × T)) → IsDistinct eq (keys_of entries) → (name stored : K) (item : T) → eq name stored ≡ true → Contains entries (stored, item) →
      lookup (eq name) entries ≡ Some item
  lookup_there entries once name stored item same in' =
      same_test name stored same entries ∙ lookup_from_place laws entries in'.0 stored item once (slice_get-get_or entries in'.0 (stored, item) in'.1 ∙ ap Some in'.2)

  -- what is found is in an entry
  pub there_lookup : (entries : List (K × T)) (name : K) (item : T) → lookup (eq name) entries ≡ Some item → (stored : K) × Contains entries (stored, item) × (eq name stored ≡ true)
  there_lookup entries name item h =
      let p = place_from_lookup (eq name) entries item h in
      (p.1, contains_at entries p.0 (p.1, item) p.2, p.3)

  module _ (xs ys : List (K × T)) (xs_once : IsDistinct eq (keys_of xs)) (ys_once : IsDistinct eq (keys_of ys)) (name : K)
      (to : (k : K) (v : T) → eq name k ≡ true → Contains xs (k, v) → Contains ys (k, v))
      (from : (k : K) (v : T) → eq name k ≡ true → Contains ys (k, v) → Contains xs (k, v)) where
    agrees_by : (a b : Option T) → lookup (eq name) xs ≡ a → lookup (eq name) ys ≡ b → lookup (eq name) ys ≡ lookup (eq name) xs
    agrees_by (Some v) b e f = (let x = there_lookup xs name v e in lookup_there ys ys_once name x.0 v x.2 (to x.0 v x.2 x.1) ∙ sym e)
    agrees_by None None e f = f ∙ sym e
    agrees_by None (Some v) e f =
        let y = there_lookup ys name v f in
        let again = lookup_there xs xs_once name y.0 v y.2 (from y.0 v y.2 y.1) in
        absurd (true≢false (ap is_some (sym again ∙ e)))

    -- a name that has the same entries has the same item
    pub lookup_agrees : lookup (eq name) ys ≡ lookup (eq name) xs
    lookup_agrees = agrees_by (lookup (eq name) xs) (lookup (eq name) ys) refl refl

  module _ (name : K) (item : T) (old : List (K × T)) (given : Option T) (new : List (K × T)) (h : Gets eq name item old given new) (new_once : IsDistinct eq (keys_of new)) where
    -- after a name got an item, that is its item
    pub Gets-here : lookup (eq name) new ≡ Some item
    Gets-here = lookup_there new new_once name h.stored item h.same h.has

    module _ (old_once : IsDistinct eq (keys_of old)) (other : K) (apart : eq name other ≡ false) where
      not_stored : eq other h.stored ≡ false
      not_stored = laws.symm other h.stored ∙ sym (laws.congr name h.stored other h.same) ∙ apart

      later : (x v : T) (entries : List (K × T)) (k : K) → eq other k ≡ true → Contains ((h.stored, x) ∷ entries) (k, v) → Contains entries (k, v)
      later x v entries k passes in' = elim (Contains-cases (h.stored, x) entries (k, v) in') [
        | inl is ↦ absurd (true≢false (sym passes ∙ ap (eq other) (sym (ap (λ (e : K × T). e.0) is)) ∙ not_stored))
        | inr more ↦ more
      ]

      left_of : (had : Option T) (v : T) (k : K) → eq other k ≡ true → Contains (entries_of h.stored had ++ new) (k, v) → Contains new (k, v)
      left_of None v k passes in' = in'
      left_of (Some x) v k passes in' = later x v new k passes in'

      onto : (had : Option T) (e : K × T) → Contains new e → Contains (entries_of h.stored had ++ new) e
      onto None e in' = in'
      onto (Some x) e in' = Contains-later (h.stored, x) new e in'

      -- and other names have theirs
      pub Gets-others : lookup (eq other) new ≡ lookup (eq other) old
      Gets-others =
          let both = (h.stored, item) ∷ old in
          let left = entries_of h.stored given ++ new in
          lookup_agrees old new old_once new_once other
          (λ k v passes in'. left_of given v k passes (Contains-permutation both left (k, v) h.bag (Contains-later (h.stored, item) old (k, v) in')))
          (λ k v passes in'. later item v old k passes (Contains-permutation left both (k, v) (IsPermutation-sym both left h.bag) (onto given (k, v) in')))

  module _ (old new : List (K × T)) (entry : K × T) (bag : IsPermutation old (entry ∷ new)) (once : IsDistinct eq (keys_of old)) where
    -- after an entry was taken out, its name has none
    pub taken_gone : (test : K → Bool) → IsKeyTest eq test → test entry.0 ≡ true → lookup test new ≡ None
    taken_gone test keyed passes =
        let whole : IsDistinct eq (keys_of (entry ∷ new)) = IsDistinct-IsPermutation eq laws.symm (keys_of old) (keys_of (entry ∷ new))
        (IsPermutation-map (λ (e : K × T). e.0) old (entry ∷ new) bag) once in
        let same : lookup test new ≡ lookup (eq entry.0) new = ap (λ (t : K → Bool). lookup t new) (λ i x. keyed entry.0 x passes i) in
        same ∙ lookup-none (eq entry.0) new (none_past_head laws entry.0 entry new whole (laws.refl entry.0))

    -- and other names have theirs
    pub taken_others : (other : K) → eq entry.0 other ≡ false → lookup (eq other) new ≡ lookup (eq other) old
    taken_others other apart =
        let not_it : eq other entry.0 ≡ false = laws.symm other entry.0 ∙ apart in
        let skipped : lookup (eq other) (entry ∷ new) ≡ lookup (eq other) new = ap (λ (b : Bool). if b then Some entry.1 else lookup (eq other) new) not_it in
        sym skipped ∙ sym (lookup_permutation laws (entry ∷ new) old (IsPermutation-sym old (entry ∷ new) bag) once (eq other) (laws.congr other))

module _ {K T : Type 0} (Gives : Bor K → Bor T → Bool → Type 0) (entries : List (K × T)) where
  abbrev pub Answers : K × T → Bool → Type 0
  Answers entry answer = (name : Bor K) × (item : Bor T) × Gives name item answer × (name.now ≡ entry.0) × (item.now ≡ entry.1)

  -- if nothing came out of a `pop_if`, what its predicate says of an item at `false` holds of each, if it holds of what comes later too
  pub none_popped : {cmp : T → T → Ordering} → ((entry : K × T) → slice_get entries 0 ≡ Some entry → (answer : Bool) × Answers entry answer × (None ≡ (if answer then Some entry else None))) →
      ((entry : K × T) → slice_get entries 0 ≡ Some entry → IsGreatest (by_item cmp) entries entry) → (Later : T → Type 0) →
      ((name : Bor K) (item : Bor T) → Gives name item false → Later item.now) → ((x y : T) → cmp y x ≢ Greater → Later x → Later y) →
      (entry : K × T) → Contains entries entry → Later entry.1
  none_popped asked shown Later says on entry in' = elim (front_cases entries) [
    | inl empty ↦ absurd (holds_none entry (subst (λ (l : List (K × T)). Contains l entry) empty in'))
    | inr first ↦
        let no = pop_if_no Answers entries asked first.0 first.1 in
        on first.0.1 entry.1 ((shown first.0 first.1).none_above entry in') (subst Later no.4 (says no.0 no.1 no.2))
  ]
