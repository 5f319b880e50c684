-- A name goes whose number has no entry any more, and the last one gets its number.
use Rattle.dary_heap.proofs.Common.{◌≡◌, ◌≢◌, ℕ, suc, ◌<◌, ◌-◌, Bool, List, [], ◌∷◌, ◌++◌, length, map, refl, ap, ◌∙◌, subst, arith, inl, inr, Some, is_some, slice_get, cases_eq, Ordering}
use Rattle.dary_heap.proofs.Common.{IsPermutation}
use Rattle.dary_heap.proofs.Cancelling.{IsPermutation-flat_map}
use Rattle.dary_heap.proofs.sift.Removing.{Removes}
use Rattle.std.specs.List.{IsDistinct}
use Rattle.indexed_heap.proofs.AsMap.{Loses-others, item_of-absent}
use Rattle.indexed_heap.proofs.Renaming.{item_of-rekeyed_gone, item_of-rekeyed_here, item_of-rekeyed_other, rekeyed_here, rekeyed_item, rekeyed_other}
use Rattle.indexed_heap.specs.Entries as idx
use Rattle.indexed_heap.specs.Entries.{IsAbsent, item_of}
use Rattle.indexed_heap.specs.Renaming.{rekeyed}
use Rattle.named_heap.specs.Names.{AreNamed, AreNamedBut, entry_of, named}
use Rattle.named_heap.proofs.Naming.{keyed_from, named_first}

module _ {K T : Type 0} {eq : K → K → Bool} {cmp : T → T → Ordering} {D : ℕ} (names : List K) (old mid : List (ℕ × T)) (i : ℕ) (item : T) (bag : IsPermutation old ((i, item) ∷ mid)) where
  -- the entry of a number is gone
  pub gone_but : AreNamed eq cmp D names old → i < length names → IsAbsent i mid → idx.AreSound cmp D mid → AreNamedBut eq cmp D names i mid
  gone_but h inside absent sound =
      let others : (j : ℕ) → j ≢ i → item_of j mid ≡ item_of j old = Loses-others i old mid (Some item) (record { bag = bag; absent = tt }) sound.distinct in
      record {
        unique = h.unique;
        sound = sound;
        inside = inside;
        absent = absent;
        held = λ j apart low. ap is_some (others j apart) ∙ h.held j low;
        bare = λ j past. others j (λ e. absurd (omega (arith, e, past, inside))) ∙ h.bare j past;
      }

-- and so is that of its name
pub gone_bag : {K T : Type 0} (names : List K) (old mid : List (ℕ × T)) (i : ℕ) (item : T) → IsPermutation old ((i, item) ∷ mid) → (name : K) → slice_get names i ≡ Some name →
    IsPermutation (named names old) ((name, item) ∷ named names mid)
gone_bag {K} {T} names old mid i item bag name is = subst (λ (l : List (K × T)). IsPermutation (named names old) l) (named_first names (i, item) mid name is)
    (IsPermutation-flat_map (λ (e : ℕ × T). entry_of (slice_get names e.0) e.1) old ((i, item) ∷ mid) bag)

module _ {K T : Type 0} (names left : List K) (free : ℕ) (r : Removes names left free) (inside : free < length names) where
  left_name : (e : ℕ × T) → e.0 < length names → e.0 ≢ free → slice_get left (rekeyed (length left) free e).0 ≡ slice_get names e.0
  left_name e low other = elim (cases_eq e.0 (length left)) [
    | inl is ↦
        let room : free < length left = omega (arith, is, other, inside, r.len) in
        let last : length names - 1 ≡ e.0 = omega (arith, is, r.len) in
        ap (λ (x : ℕ × T). slice_get left x.0) (rekeyed_here (length left) free e is) ∙ r.moved room ∙ ap (slice_get names) last
    | inr apart ↦ ap (λ (x : ℕ × T). slice_get left x.0) (rekeyed_other (length left) free e apart) ∙ r.others e.0 other (omega (arith, low, apart, r.len))
  ]

  named_left : (entries : List (ℕ × T)) → ((p : ℕ) (e : ℕ × T) → slice_get entries p ≡ Some e → (e.0 < length names) × (e.0 ≢ free)) →
      named left (map (rekeyed (length left) free) entries) ≡ named names entries
  named_left [] h = refl
  named_left (e ∷ entries) h =
      let here = h 0 e refl in
      λ k. entry_of (left_name e here.0 here.1 k) (rekeyed_item (length left) free e k) ++ named_left entries (λ p x there. h (suc p) x there) k

  module _ {eq : K → K → Bool} {cmp : T → T → Ordering} {D : ℕ} (mid : List (ℕ × T)) (h : AreNamedBut eq cmp D names free mid) where
    abbrev new : List (ℕ × T)
    new = map (rekeyed (length left) free) mid

    -- the other entries keep their names
    pub freed_entries : named left new ≡ named names mid
    freed_entries = named_left mid (λ p e there. (keyed_from names mid h.bare p e there, h.absent.none p e there))

    pub freed : IsDistinct eq left → idx.AreSound cmp D new → AreNamed eq cmp D left new
    freed unique sound = record {
      unique = unique;
      sound = sound;
      held = λ i low. elim (cases_eq i free) [
        | inl is ↦
            let other : length left ≢ free = λ e. absurd (omega (arith, e, is, low)) in
            ap (λ (k : ℕ). is_some (item_of k new)) is ∙ ap is_some (item_of-rekeyed_here (length left) free mid h.absent) ∙ h.held (length left) other (omega (arith, r.len))
        | inr apart ↦
            let under : i ≢ length left = λ e. absurd (omega (arith, e, low)) in
            ap is_some (item_of-rekeyed_other (length left) free mid i under apart) ∙ h.held i apart (omega (arith, low, r.len))
      ];
      bare = λ i past. elim (cases_eq i free) [
        | inl is ↦
            let last : length left ≡ free = omega (arith, is, past, inside, r.len) in
            ap (λ (k : ℕ). item_of k new) is ∙ item_of-rekeyed_here (length left) free mid h.absent ∙ ap (λ (k : ℕ). item_of k mid) last ∙ item_of-absent free mid h.absent
        | inr apart ↦ elim (cases_eq i (length left)) [
          | inl is ↦ ap (λ (k : ℕ). item_of k new) is ∙ item_of-rekeyed_gone (length left) free mid (λ e. apart (is ∙ e))
          | inr above ↦ item_of-rekeyed_other (length left) free mid i above apart ∙ h.bare i (omega (arith, past, above, r.len))
        ]
      ];
    }
