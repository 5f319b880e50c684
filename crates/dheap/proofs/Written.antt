-- What a loop over replies has written.
use Rattle.dheap.proofs.Common.{◌≡◌, ℕ, ℤ, suc, ◌<◌, ◌≤◌, ◌+◌, List, [], ◌∷◌, ◌++◌, Option, None, Some, All, is_some, cond, true, false, take, drop, length, get_or, refl, sym, ap, ◌∙◌, subst}
use Rattle.dheap.proofs.Common.{append_assoc, append-nil, arith, map-append, take-append-drop, take_all, All-append, All-cons, All-head, All-nil, All-tail, Appends, append_known, answer, answered}
use Rattle.dheap.proofs.Common.{line, text}
use Rattle.std.proofs.Math.Bool.{true≢false}
use Rattle.std.proofs.Math.Seq.{drop-cons, take-suc}
use Rattle.std.proofs.lemmas.List.Concat.{flat_map-append}
use Rattle.std.proofs.lemmas.List.Sums.{take_while-cons}
use Rattle.std.specs.Io.KnownBytes.{Keeps}
use Rattle.dary_heap.specs.Machine as machine
use Rattle.dary_heap.specs.Reading as read
use Rattle.dary_heap.specs.declared.run.Reply.{Reply}

abbrev IsAnswered : machine.Reply ℤ → Type 0
IsAnswered r = is_some (answer r) ≡ true

module _ {D : ℕ} (replies : List (Reply ℤ D)) (i : ℕ) (reply : Reply ℤ D) (inside : i < length replies) (is : reply ≡ get_or replies i reply) where
  read-next : read.replies (take (i + 1) replies) ≡ read.replies (take i replies) ++ read.reply reply ∷ []
  read-next =
      let suc_i : i + 1 ≡ suc i = omega arith in
      ap (λ n. read.replies (take n replies)) suc_i ∙ ap (λ xs. read.replies xs) (take-suc replies i reply inside ∙ ap (λ x. take i replies ++ x ∷ []) (sym is))
      ∙ map-append read.reply (take i replies) (reply ∷ [])

  pub whole-next : is_some (answer (read.reply reply)) ≡ true → All IsAnswered (read.replies (take i replies)) → All IsAnswered (read.replies (take (i + 1) replies))
  whole-next told whole = subst (All IsAnswered) (sym read-next) (All-append IsAnswered _ _ whole (All-cons IsAnswered (read.reply reply) [] told (All-nil IsAnswered)))

  pub text-next : text (read.replies (take (i + 1) replies)) ≡ text (read.replies (take i replies)) ++ line (answer (read.reply reply))
  text-next = ap text read-next ∙ flat_map-append (λ r. line (answer r)) (read.replies (take i replies)) (read.reply reply ∷ []) ∙ ap (λ l. text (read.replies (take i replies)) ++ l) (append-nil _)

pub buffered : (a b : Option (List ℕ)) (buffer more told says : List ℕ) → Appends a (append_known b buffer) told → more ≡ buffer ++ says → Appends a (append_known b more) (told ++ says)
buffered None b buffer more told says p e = tt
buffered (Some x) None buffer more told says p e = absurd p
buffered (Some x) (Some y) buffer more told says p e = ap (λ l. y ++ l) e ∙ sym (append_assoc y buffer says) ∙ ap (λ l. l ++ says) p ∙ append_assoc x told says

pub buffer_flushed : (a b c : Option (List ℕ)) (buffer left told : List ℕ) → Appends a (append_known b buffer) told → Appends b c buffer → left ≡ [] → Appends a (append_known c left) told
buffer_flushed None b c buffer left told p q e = tt
buffer_flushed (Some x) None c buffer left told p q e = absurd p
buffer_flushed (Some x) (Some y) None buffer left told p q e = absurd q
buffer_flushed (Some x) (Some y) (Some z) buffer left told p q e = ap (λ l. z ++ l) e ∙ append-nil z ∙ q ∙ p

pub line-none : (says : Option (List ℕ)) → is_some says ≡ false → line says ≡ []
line-none None none = refl
line-none (Some says) none = absurd (true≢false none)

-- the buffer is written out, and the output is flushed
pub all_flushed : (a b c d : Option (List ℕ)) (buffer passed : List ℕ) (before all : List (machine.Reply ℤ)) → Appends a (append_known b buffer) (text before) → passed ≡ buffer →
    Appends b c passed → Keeps c d → before ≡ answered all → Appends a d (text (answered all))
all_flushed None b c d buffer passed before all p e q k is = tt
all_flushed (Some x) None c d buffer passed before all p e q k is = absurd p
all_flushed (Some x) (Some y) None d buffer passed before all p e q k is = absurd q
all_flushed (Some x) (Some y) (Some z) None buffer passed before all p e q k is = absurd k
all_flushed (Some x) (Some y) (Some z) (Some w) buffer passed before all p e q k is = k ∙ q ∙ ap (λ l. y ++ l) e ∙ p ∙ ap (λ rs. x ++ text rs) is

All-after : (rs ss : List (machine.Reply ℤ)) → All IsAnswered (rs ++ ss) → All IsAnswered ss
All-after [] ss h = h
All-after (r ∷ rs) ss h = All-after rs ss (All-tail IsAnswered r (rs ++ ss) h)

pub answered_all : (rs : List (machine.Reply ℤ)) → All IsAnswered rs → answered rs ≡ rs
answered_all [] h = refl
answered_all (r ∷ rs) h =
    take_while-cons (λ x. is_some (answer x)) r rs ∙ ap (λ b. cond b (r ∷ answered rs) []) (All-head IsAnswered r rs h) ∙ ap (λ l. r ∷ l) (answered_all rs (All-tail IsAnswered r rs h))

pub answered_before : (rs ss : List (machine.Reply ℤ)) (r : machine.Reply ℤ) → All IsAnswered rs → is_some (answer r) ≡ false → answered (rs ++ r ∷ ss) ≡ rs
answered_before [] ss r h none = take_while-cons (λ x. is_some (answer x)) r ss ∙ ap (λ b. cond b (r ∷ answered ss) []) none
answered_before (q ∷ rs) ss r h none =
    take_while-cons (λ x. is_some (answer x)) q (rs ++ r ∷ ss) ∙ ap (λ b. cond b (q ∷ answered (rs ++ r ∷ ss)) []) (All-head IsAnswered q rs h)
    ∙ ap (λ l. q ∷ l) (answered_before rs ss r (All-tail IsAnswered q rs h) none)

module _ {D : ℕ} (replies : List (Reply ℤ D)) (i : ℕ) where
  -- each reply has an answer
  module _ (end : length replies ≤ i) (whole : All IsAnswered (read.replies (take i replies))) where
    pub whole-end : All IsAnswered (read.replies replies)
    whole-end = subst (λ rs. All IsAnswered (read.replies rs)) (take_all i replies end) whole

    pub answered-end : read.replies (take i replies) ≡ answered (read.replies replies)
    answered-end = ap (λ rs. read.replies rs) (take_all i replies end) ∙ sym (answered_all (read.replies replies) whole-end)

  -- the reply at this place has none
  module _ (reply : Reply ℤ D) (inside : i < length replies) (is : reply ≡ get_or replies i reply) (none : is_some (answer (read.reply reply)) ≡ false) where
    at-reply : read.replies replies ≡ read.replies (take i replies) ++ read.reply reply ∷ read.replies (drop (suc i) replies)
    at-reply =
        ap (λ rs. read.replies rs) (sym (take-append-drop i replies) ∙ ap (λ rs. take i replies ++ rs) (drop-cons replies i reply inside ∙ ap (λ x. x ∷ drop (suc i) replies) (sym is)))
        ∙ map-append read.reply (take i replies) (reply ∷ drop (suc i) replies)

    pub not-whole : All IsAnswered (read.replies replies) → false ≡ true
    not-whole whole =
        sym none ∙ All-head IsAnswered (read.reply reply) _ (All-after (read.replies (take i replies)) _ (subst (All IsAnswered) at-reply whole))

    pub answered-here : All IsAnswered (read.replies (take i replies)) → read.replies (take i replies) ≡ answered (read.replies replies)
    answered-here whole = sym (ap answered at-reply ∙ answered_before _ _ _ whole none)

same_bytes : (a : Option (List ℕ)) → Appends a a []
same_bytes None = tt
same_bytes (Some xs) = sym (append-nil xs)

-- if the first reply has no answer, nothing is written
pub none_written : {D : ℕ} (a : Option (List ℕ)) (replies : List (Reply ℤ D)) (reply : Reply ℤ D) → 0 < length replies → reply ≡ get_or replies 0 reply → is_some (answer (read.reply reply)) ≡ false →
    Appends a a (text (answered (read.replies replies)))
none_written a replies reply some is none = subst (λ rs. Appends a a (text rs)) (answered-here replies 0 reply some is none (All-nil IsAnswered)) (same_bytes a)

-- what is printed if each reply has an answer
pub printed_by : (may : List ℕ → Type 0) (a b : Option (List ℕ)) (replies : List (machine.Reply ℤ)) → All IsAnswered replies → Appends a b (text (answered replies)) → may (text replies) →
    (printed : List ℕ) × may printed × Appends a b printed
printed_by may a b replies whole written law = (text replies, law, subst (λ rs. Appends a b (text rs)) (answered_all replies whole) written)
