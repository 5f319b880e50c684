-- Names are as many as entries, and as many as their keys need room for.
use Rattle.dary_heap.proofs.Common.{◌≡◌, ℕ, zero, suc, ◌<◌, ◌≤◌, Bool, false, List, length, map, get_or, refl, sym, ap, ◌∙◌, subst, arith, Option, Some, None, is_some, slice_get, slice_get-get_or}
use Rattle.dary_heap.proofs.Common.{get_or_from_slice_get, Contains, Ordering, nat_eq, eqb-true, ne_eqb, length-map, true≢false}
use Rattle.dary_heap.proofs.Order.{read}
use Rattle.std.proofs.lemmas.Map.Keys.{IsDistinct-from_apart}
use Rattle.std.proofs.lemmas.Map.Steps.{length-le_from_distinct_below}
use Rattle.std.proofs.lemmas.Map.Views.{Contains-from_any}
use Rattle.std.proofs.lemmas.Option.{slice_get-map}
use Rattle.std.specs.Option.{option_map}
use Rattle.std.specs.Prelude.{min}
use Rattle.std.specs.declared.result.Result.{Result}
use Rattle.std.specs.declared.result.Result.TheVariants.{Ok, Err}
use Rattle.dary_heap.specs.Contents.{Contents}
use Rattle.dary_heap.specs.Room.{Shrinks}
use Rattle.indexed_heap.proofs.AsMap.{item_of-there}
use Rattle.indexed_heap.proofs.Keys.{below_bound, bound_least}
use Rattle.indexed_heap.specs.Entries.{IsEntry, item_of}
use Rattle.indexed_heap.specs.Keys.{key_bound}
use Rattle.named_heap.specs.Names.{AreNamed}
use Rattle.named_heap.proofs.Naming.{keyed_of}

module _ {K T : Type 0} {eq : K → K → Bool} {cmp : T → T → Ordering} {D : ℕ} (names : List K) (entries : List (ℕ × T)) (h : AreNamed eq cmp D names entries) where
  -- the number of a name has an entry
  pub entry_of_name : (m : ℕ) → m < length names → (at : ℕ) × IsEntry entries at m
  entry_of_name m inside = by (item_of m entries) refl
    where
      by : (given : Option T) → item_of m entries ≡ given → (at : ℕ) × IsEntry entries at m
      by (Some item) has =
          let in' = item_of-there m entries item has in
          (in'.0, record { entry = (m, item); there = slice_get-get_or entries in'.0 (m, item) in'.1 ∙ ap Some in'.2; has = refl })
      by None none = absurd (true≢false (sym (h.held m inside) ∙ ap is_some none))

  -- so what is above each key is as great as the number of names
  pub names_within : (keys : ℕ) → ((at key : ℕ) → IsEntry entries at key → key < keys) → length names ≤ keys
  names_within keys above = by (length names) refl
    where
      by : (n : ℕ) → length names ≡ n → n ≤ keys
      by zero is = omega arith
      by (suc m) is = let last = entry_of_name m (omega (arith, is)) in omega (arith, above last.0 m last.1)

  -- the least such number is that of the names
  pub bound_named : key_bound entries ≡ length names
  bound_named = omega (
    arith,
    bound_least entries (length names) (keyed_of names entries h),
    names_within (key_bound entries) (λ at key e. subst (λ (k : ℕ). k < key_bound entries) e.has (below_bound entries at e.entry e.there)),
  )

  -- no more entries than names
  pub entries_few : length entries ≤ length names
  entries_few =
      let keys : List ℕ = map (λ (e : ℕ × T). e.0) entries in
      let key_at : (i d : ℕ) → i < length keys → (e : ℕ × T) × (slice_get entries i ≡ Some e) × (get_or keys i d ≡ e.0) = λ i d inside.
      let e = read entries i (omega (arith, inside, length-map entries (λ (e : ℕ × T). e.0))) in
      (e.0, e.1, get_or_from_slice_get keys i e.0.0 d (slice_get-map (λ (e : ℕ × T). e.0) entries i ∙ ap (option_map (λ (e : ℕ × T). e.0)) e.1)) in
      let apart : (i j d : ℕ) → i < j → j < length keys → nat_eq (get_or keys i d) (get_or keys j d) ≡ false = λ i j d less inside.
      let a = key_at i d (omega (arith, less, inside)) in
      let b = key_at j d inside in
      ne_eqb (get_or keys i d) (get_or keys j d) (λ same. let both : i ≡ j = h.sound.distinct.once i j a.0 b.0 a.1 b.1 (sym a.2 ∙ same ∙ b.2) in omega (arith, both, less)) in
      let within : (q : ℕ) → Contains keys q → q < length names = λ q in'.
      let a = key_at in'.0 q in'.1 in
      subst (λ (k : ℕ). k < length names) (sym a.2 ∙ in'.2) (keyed_of names entries h in'.0 a.0 a.1) in
      omega (
        arith,
        length-le_from_distinct_below keys (length names) (IsDistinct-from_apart nat_eq keys apart) (λ q found. within q (Contains-from_any eqb-true q keys found)),
        length-map entries
            (λ (e : ℕ × T). e.0),
      )

-- at least what was asked for is left
pub shrunk : {X A B : Type 0} {cmp : X → X → Ordering} {D wanted : ℕ} {old new : Contents X} {result : Result A B} → Shrinks cmp D wanted old new result → min old.capacity wanted ≤ new.capacity
shrunk {result = Ok x} h = omega (arith, h.ok)
shrunk {result = Err x} h = omega (arith, h.err)
