-- What `Slots` and `Hole` own, at any item type: two words, and the row of places that they lead to. Assumes `Logic`.
--     two_words, words     the two words as a machine value
--     Whole, Hollow, row_of     the types of the two, and what both own
--     size_fits, offset_fits     an offset into a row does not overflow
--     row_out, row_found, row_in     a row is taken from its two words, at a block or at any pointer, and put back
use Rattle.dary_heap.proofs.hole.Walks.{ℕ, ◌*◌, ◌<◌, ◌^◌, Bool, true, false, List, [], ◌∷◌, ◌≡◌, refl, sym, ap, ◌∙◌, arith, length, get_or, set, length-set, length-replicate, get_or-replicate, Ura}
use Rattle.dary_heap.proofs.hole.Walks.{Fml, fsep, ent, never, w64, Val, WT, vint, vstruct, vcons, vnil, Goal, Step, step, Seq, Item, ‵, ◌$◌, ◌∵◌, !, qed, drop, fsplit, fjoin, flt_l, flt_i, done}
use Rattle.dary_heap.proofs.hole.Walks.{Logic, sem, Is, Tells, shows, uint_vals, uint_Tells, RattleType, Ptr, block_ptr, null_ptr, ptr_val, in_a_block, rawptr_vals, rawptr_Tells, pure_i, Room}
use Rattle.dary_heap.proofs.hole.Walks.{facts, RawPtr-laws, usize-laws, shape, Struct, Struct-Tells, ◌≢◌, El, R, el_x, times_below, one_below, sz, owned, slots}
use lib.Seq.{set-set, set_comm, set-get_or, get_or-set_other}
use denote.Struct.OwningLaws.{Tells-lowered}
use Rattle.dary_heap.specs.hole.Slots.{all_filled, filled_but}
use Rattle.dary_heap.specs.declared.hole.pointers.Slots.{Slots}
use Rattle.dary_heap.specs.contracts.hole.pointers.Hole as O
use Rattle.dary_heap.specs.contracts.hole.pointers.Slots as P

-- a pointer and a length
abbrev pub two_words : Ptr → ℕ → Val
two_words p n = vstruct (vcons (ptr_val p) (vcons (vint w64 n) vnil))

abbrev pub words : Ptr → ℕ → List Val
words p n = two_words p n ∷ []

pub words_fit : (b o n : ℕ) → n < 2 ^ 64 → WT (two_words (block_ptr b o) n)
words_fit b o n fits = (tt, (record { fits = fits }, tt))

-- the empty place is filled, or another place becomes the empty one
pub filled_again : (n at : ℕ) → at < n → set (filled_but n at) at true ≡ all_filled n
filled_again n at within = set-set (all_filled n) at false true ∙ ap (set (all_filled n) at) (sym (get_or-replicate n at true false within)) ∙ set-get_or (all_filled n) at false

pub filled_but_other : (n at place : ℕ) → at < n → place ≢ at → set (set (filled_but n at) place false) at true ≡ filled_but n place
filled_but_other n at place within other = set_comm (filled_but n at) place at false true other ∙ ap (λ (fs : List Bool). set fs place false) (filled_again n at within)

pub holds_other : (n at place : ℕ) → place < n → place ≢ at → get_or (filled_but n at) place false ≡ true
holds_other n at place within other = get_or-set_other (all_filled n) at place false false other ∙ get_or-replicate n place true false within

pub many_marks : (n at : ℕ) → length (filled_but n at) ≡ n
many_marks n at = length-set (all_filled n) at false ∙ length-replicate n true

module _ (E : El) where
  abbrev pub Whole : RattleType
  Whole = P.the_row (R E)

  abbrev pub Hollow : RattleType
  Hollow = O.the_row (R E)

  abbrev pub Pair : RattleType
  Pair = Struct (shape (P.the_type (R E)))

  -- both own this, at their places
  abbrev pub row_of : Ptr → ℕ → List (el_x E) → List Bool → List Val → Fml
  row_of p n xs fs vs = fsep (Pair.own_val (p, (n, tt)) vs) (owned (R E) p n xs fs)

  abbrev pub full_row : (b o : ℕ) (xs : List (el_x E)) → Room (R E) (length xs) → Slots (el_x E)
  full_row b o xs room = record { ptr = block_ptr b o; len = length xs; items = xs; ok = refl; small = room.0 }

  pub whole_tells : Tells Whole (Is Whole) (λ d. words d.ptr d.len)
  whole_tells = Tells-lowered (P.the_type (R E)) (RawPtr-laws, (usize-laws, tt))

  pub hollow_tells : Tells Hollow (Is Hollow) (λ d. words d.ptr d.len)
  hollow_tells = Tells-lowered (O.the_type (R E)) (RawPtr-laws, (usize-laws, tt))

  pub size_fits : (n i : ℕ) → i < n → Room (R E) n → sz E < 2 ^ 64
  size_fits n i within room = let fits : sz E < 2 ^ 63 = one_below n (sz E) (2 ^ 63) (omega arith) room.1 in omega arith

  pub offset_fits : (n i : ℕ) → i < n → Room (R E) n → i * sz E < 2 ^ 64
  offset_fits n i within room = let fits : i * sz E < 2 ^ 63 = times_below i n (sz E) (2 ^ 63) (omega arith) room.1 in omega arith

module _ (E : El) {M : Type 1} {𝓤 : Ura M} {𝓛 : Logic 𝓤} {K : Type 0} {Γ : List (Item 𝓤)} {G : Goal 𝓤 𝓛.H} where
  pub row_out : K → (b o n : ℕ) (xs : List (el_x E)) (fs : List Bool) (vs : List Val)
      → (vs ≡ words (block_ptr b o) n → Room (R E) n → Seq K 𝓛 (‵ (slots (R E) (block_ptr b o) xs fs) ∷ Γ) G)
      → Seq K 𝓛 (‵ (row_of E (block_ptr b o) n xs fs vs) ∷ Γ) G
  row_out t b o n xs fs vs k =
      fsplit t $ facts t (Pair E) (Is (Pair E)) (shows 𝓛 (Pair E)) (block_ptr b o, (n, tt)) vs (λ is. fsplit t $ flt_l t (λ bytes.
      k (Struct-Tells (shape (P.the_type (R E))) (rawptr_vals, (uint_vals w64, tt)) (rawptr_Tells, (uint_Tells w64, tt)) (block_ptr b o, (n, tt)) vs is) (is.1.1.1.0.1, bytes)))

  -- nothing is owned at null
  pub row_found : K → (p : Ptr) (n : ℕ) (xs : List (el_x E)) (fs : List Bool) (vs : List Val)
      → ((b o : ℕ) → p ≡ block_ptr b o → vs ≡ words (block_ptr b o) n → Room (R E) n → Seq K 𝓛 (‵ (slots (R E) (block_ptr b o) xs fs) ∷ Γ) G)
      → Seq K 𝓛 (‵ (row_of E p n xs fs vs) ∷ Γ) G
  row_found t p n xs fs vs k =
      let nowhere : ent 𝓤 (sem 𝓛 (row_of E null_ptr n xs fs vs)) (never 𝓤) = qed 𝓛 (‵ (row_of E null_ptr n xs fs vs) ∷ []) ∵ fsplit ! $ drop ! $ fsplit ! $ drop ! $ done ! in
      in_a_block t p (λ r. row_of E r n xs fs vs) nowhere (λ b o is. row_out t b o n xs fs vs (k b o is))

  pub row_in : K → (b o n : ℕ) (xs : List (el_x E)) (fs : List Bool) (room : Room (R E) n)
      → Step K 𝓛 (‵ (row_of E (block_ptr b o) n xs fs (words (block_ptr b o) n)) ∷ Γ) G (‵ (slots (R E) (block_ptr b o) xs fs) ∷ Γ) G
  row_in t b o n xs fs room = step (λ s. flt_i t _ _ room.1 $ fjoin t $
      pure_i t ((Pair E).own_val (block_ptr b o, (n, tt)) (words (block_ptr b o) n)) (λ vss. (tt, (tt, ((tt, tt), tt))))
      ((rawptr_vals (block_ptr b o), (uint_vals w64 n, tt)), (refl, (refl, ((refl, room.0), tt)))) $ fjoin t $ s)
