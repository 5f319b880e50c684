-- A `&` to a `Hole` is made of a borrow of it. Of its row of places it lends, for each item that lies there, what a `&` to it holds. Assumes `Logic`.
use Rattle.dary_heap.proofs.hole.Walks.{Bool, true, false, List, [], ◌∷◌, ℕ, ◌*◌, ◌^◌, Ura, Lft, Fml, Incl, ftrue, fsep, flt, Logic, RattleType, Ptr, block_ptr, null_ptr, in_block, ◌+ₚ◌, Laws}
use Rattle.dary_heap.proofs.hole.Walks.{Lends, Lends-both, Lends-false, Lends-lies, Lends-nothing, Lends-said, lent_at_shr_laws, bytes_of, slot, slots, owned, slot_lent, slots_lent, lent, ◌++◌}
use Rattle.dary_heap.proofs.hole.Walks.{Incl-trans, meet_⊑_left, RawPtr-copy, usize-copy, of_Lends}
use denote.Shares.{Shares-less}
use denote.Sharing.{ShrLaws, nothing, said, beside}
use denote.SharingLaws.{nothing_shr_laws, said_shr_laws, beside_shr_laws}
use denote.Pure.{Pure}
use denote.Param.Shared.{copy_shared}
use denote.Struct.Field.{RawPtr-field, usize-field}
use Rattle.dary_heap.specs.hole.Slots.{filled_but}
use Rattle.dary_heap.specs.declared.hole.pointers.Hole.{Hole}
use Rattle.dary_heap.proofs.hole.pointers.Hole.TheLaw.Statement.{statement}
use Rattle.dary_heap.specs.contracts.hole.pointers.Hole as C

-- a borrow of P becomes s, at lifetimes within l
record Lendable (l : Lft) (P : Fml) (s : Lft → Fml) : Type 2 where
  laws : ShrLaws s
  lends : (M : Type 1) (𝓤 : Ura M) (𝓛 : Logic 𝓤) → Lends 𝓛 P s l

module _ {l : Lft} where
  unlent : (P : Fml) → Lendable l P nothing
  unlent P = record { laws = nothing_shr_laws; lends = λ M 𝓤 𝓛. Lends-nothing 𝓛 P l }

  told : (P : Fml) → Pure P → Lendable l P (said P)
  told P pure = record { laws = said_shr_laws P pure; lends = λ M 𝓤 𝓛. Lends-said 𝓛 P pure l }

  both : {P Q : Fml} {s t : Lft → Fml} → Lendable l P s → Lendable l Q t → Lendable l (fsep P Q) (beside s t)
  both {P} {Q} {s} {t} p q = record {
    laws = beside_shr_laws s t p.laws q.laws;
    lends = λ M 𝓤 𝓛. Lends-both 𝓛 P Q s t l (p.lends M 𝓤 𝓛) (q.lends M 𝓤 𝓛);
  }

-- at an element type T, whose lifetimes have l within them
module _ (T : RattleType) (L : Laws T) {l : Lft} (within : Incl l T.lives) where
  place : (f : Bool) (p : Ptr) (x : T.Denot) → Lendable l (slot T f p x) (slot_lent T f p x)
  place false p x = unlent (slot T false p x)
  place true p x = record {
    laws = lent_at_shr_laws T L.shr_laws p x;
    lends = λ M 𝓤 𝓛. Lends-lies 𝓛 T l p x (Shares-less 𝓛 T T.lives l within (L.shares 𝓛) x);
  }

  row : (fs : List Bool) (xs : List T.Denot) (p : Ptr) → Lendable l (slots T p xs fs) (slots_lent T p xs fs)
  row [] [] p = unlent ftrue
  row [] (x ∷ xs) p = unlent ftrue
  row (f ∷ fs) [] p = unlent ftrue
  row (f ∷ fs) (x ∷ xs) p = both (place f p x) (row fs xs (p +ₚ bytes_of T))

  -- no row begins at null
  block : (fs : List Bool) (xs : List T.Denot) (p : Ptr) → Lendable l (in_block p (slots T p xs fs)) (slots_lent T p xs fs)
  block fs xs (block_ptr b o) = row fs xs (block_ptr b o)
  block fs xs null_ptr = record { laws = (row fs xs null_ptr).laws; lends = λ M 𝓤 𝓛. Lends-false 𝓛 (slots_lent T null_ptr xs fs) l }

  slots_lendable : (p : Ptr) (n : ℕ) (xs : List T.Denot) (fs : List Bool) → Lendable l (owned T p n xs fs) (lent T p n xs fs)
  slots_lendable p n xs fs = both (told (flt (n * bytes_of T) (2 ^ 63)) tt) (block fs xs p)

pub shares : (T : RattleType) (L : Laws T) → statement T L
shares T L =
    let lives : Lft = (C.the_row T).lives in
    let within : Incl lives T.lives = Incl-trans (meet_⊑_left (T.lives ++ []) _) (meet_⊑_left T.lives []) in
    let items : (d : Hole T.Denot) → Lendable lives (C.the_heap T d) (C.the_lent T d d.ptr) = λ d. slots_lendable T L within d.ptr d.len d.items (filled_but d.len d.at) in
    of_Lends (C.struct T) (C.the_codes T.Denot T.coded) (C.the_heap T) (C.the_lent T)
    (λ d p. (items d).laws) (copy_shared RawPtr-field RawPtr-copy, (copy_shared usize-field usize-copy, tt))
    (λ M 𝓤 𝓛 d p. (items d).lends M 𝓤 𝓛)
