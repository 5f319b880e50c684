use Rattle.dary_heap.proofs.{◌≡◌, ◌≢◌, ℕ, ◌+◌, ◌<◌, ◌≤◌, [], ◌∷◌, ◌++◌, Bool, true, false, List, length, take, drop, Some, slice_get, nat_eq, refl, sym, ap, ◌∙◌, arith, length-append, slice_get_read}
use Rattle.dary_heap.proofs.{get_or_from_slice_get, CalledAt, ◌&&◌, bool_byte, TakesInTurn, swap, items_where_true, exchanges, add-one, le_refl, ne_eqb, take_all, take_more, first_no}
use Rattle.core.proofs.num.Orders.{Bool-small}
use Rattle.std.proofs.Retain.{picked_push_false}
use Rattle.std.proofs.lemmas.Bool.{eq-eqb}
use Rattle.dary_heap.proofs.heap.Filtering.{ReturnsInTurn-more, picked-yes, next_asked, take-before, take-brought, first_no-more}
use Rattle.dary_heap.proofs.heap.filter.keep.Invariants.{Told}
use Rattle.dary_heap.proofs.heap.filter.keep.Goals.{After-index, then-loop-start-test+else-f, else-loop-start-test}
use Rattle.dary_heap.proofs.heap.filter.keep.Given.{Over}
use Rattle.dary_heap.proofs.heap.filter.keep.Goals as goal

-- the items that are kept, with the next one or without
front_more : {X : Type 0} (b : Bool) (bs : List Bool) (old xs ys : List X) (kept place : ℕ) (x : X) → kept ≤ place → place < length xs → slice_get xs place ≡ Some x →
    slice_get old (length bs) ≡ Some x → ys ≡ swap xs kept place → take kept xs ≡ items_where_true bs old → take (kept + bool_byte b) ys ≡ items_where_true (bs ++ b ∷ []) old
front_more true bs old xs ys kept place x few within there at is front = take-brought xs ys kept place x few within there is ∙ ap (λ l. l ++ x ∷ []) front ∙ sym (picked-yes bs old x at)
front_more false bs old xs ys kept place x few within there at is front =
    let same : kept + bool_byte false ≡ kept = omega arith in
    ap (λ n. take n ys) same ∙ take-before xs ys kept place x few within is ∙ front ∙ sym (picked_push_false bs old)

front_yes : {X : Type 0} (bs : List Bool) (old : List X) (start : ℕ) (x : X) → start < length old → length bs ≡ start → slice_get old start ≡ Some x → take start old ≡ items_where_true bs old →
    take (start + 1) old ≡ items_where_true (bs ++ true ∷ []) old
front_yes bs old start x within so_far at front = take_more old start x within ∙ ap (λ z. take start old ++ z ∷ []) (get_or_from_slice_get old start x x at) ∙ ap (λ l. l ++ x ∷ []) front
    ∙ sym (picked-yes bs old x (ap (slice_get old) so_far ∙ at))

-- one answer more
told_more : {X P : Type 0} (calls : P → X → Bool → P → Type 0) (old xs ys : List X) (f q r : P) (place kept start kept' start' : ℕ) (b : Bool) (x : X)
    (told : Told calls old xs f q place kept start) → slice_get old place ≡ Some x → calls q x b r → take kept' ys ≡ items_where_true (told.answers ++ b ∷ []) old →
    start' ≡ first_no told.answers + bool_byte (b && nat_eq (first_no told.answers) (length told.answers)) → Told calls old ys f r (place + 1) kept' start'
told_more calls old xs ys f q r place kept start kept' start' b x told here called front first = record {
  answers = told.answers ++ b ∷ [];
  so_far = omega (arith, length-append told.answers (b ∷ []), told.so_far);
  asked = ReturnsInTurn-more calls f q r told.answers b old x (ap (slice_get old) told.so_far ∙ here) told.asked called;
  front = front;
  first = first ∙ sym (first_no-more told.answers b);
}

-- an answer after the first no
later_no : (b : Bool) (first n : ℕ) → first < n → first ≡ first + bool_byte (b && nat_eq first n)
later_no true first n before = omega (arith, ap bool_byte (ne_eqb first n (omega arith)))
later_no false first n before = omega arith

pub loop-start-init : goal.loop-start-init
loop-start-init g c = record { within = omega arith; callable = c.requires; told = record { answers = []; so_far = refl; asked = refl; front = refl; first = refl } }

-- the item that is asked about
asked_of : (g : Over) (c : After-index g) → slice_get c.args.items.now.items c.loop-start.start ≡ Some c.index.result.now
asked_of g c = let old = c.args.items.now.items in
    slice_get_read old (length old) c.loop-start.start c.index.result.now refl (omega (arith, c.loop-start-test.true, c.len.ensures, c.args.items.now.ok.0)) c.index.ensures

pub f-requires : goal.f-requires
f-requires g c = (next_asked g.F.FnMut c.loop-start.f c.args.items.now.items c.loop-start.start c.index.result.now (asked_of g c) c.loop-start.invariant.callable).0 c.index.result refl

pub loop-start-smaller : goal.loop-start-smaller
loop-start-smaller g c = omega (arith, c.loop-start-test.true, c.len.ensures)

pub loop-start-preserved : goal.loop-start-preserved
loop-start-preserved g c =
    let old = c.args.items.now.items in
    let start = c.loop-start.start in
    let x = c.index.result.now in
    let before = c.loop-start.invariant in
    let told = before.told in
    let within : start < length old = omega (arith, c.loop-start-test.true, c.len.ensures, c.args.items.now.ok.0) in
    let here : slice_get old start ≡ Some x = slice_get_read old (length old) start x refl within c.index.ensures in
    let called : CalledAt g.F.FnMut c.loop-start.f x true c.f.new.self = record { shown = c.index.result; shows = refl; called = c.if-f.ensures } in
    record {
      within = omega (arith, c.loop-start-test.true, c.len.ensures);
      callable = rw add-one ((next_asked g.F.FnMut c.loop-start.f old start x here before.callable).1 true c.f.new.self called);
      told = told_more (CalledAt g.F.FnMut) old old old c.args.f c.loop-start.f c.f.new.self start start start (start + 1) (start + 1) true x told here called
          (front_yes told.answers old start x within told.so_far here told.front)
          (omega (arith, told.first, ap bool_byte (eq-eqb (first_no told.answers) (length told.answers) (sym told.first ∙ sym told.so_far))));
    }

pub returns-then-start-len-clause-kept : goal.returns-then-start-len-clause-kept
returns-then-start-len-clause-kept g c =
    let old = c.args.items.now in
    let told = c.loop-start.invariant.told in
    let all : c.loop-start.start ≡ length old.items = omega (arith, c.if-start-len.true, c.len-2.ensures, old.ok.0) in
    (told.answers, c.loop-start.f, told.so_far ∙ all, told.asked, sym (take_all c.loop-start.start old.items (omega (arith, all))) ∙ told.front, told.first)

pub loop-place-init : goal.loop-place-init
loop-place-init g c = elim c.loop-start-test.branch [
  | else-loop-start-test w ↦ absurd (omega (arith, w.loop-start-test.false, c.if-start-len.false, c.len.ensures, c.len-2.ensures, c.loop-start.invariant.within))
  | then-loop-start-test+else-f w ↦
      let old = c.args.items.now.items in
      let start = c.loop-start.start in
      let x = w.index.result.now in
      let before = c.loop-start.invariant in
      let told = before.told in
      let within : start < length old = omega (arith, w.loop-start-test.true, c.len.ensures, c.args.items.now.ok.0) in
      let here : slice_get old start ≡ Some x = slice_get_read old (length old) start x refl within w.index.ensures in
      let called : CalledAt g.F.FnMut c.loop-start.f x false w.f.new.self = record { shown = w.index.result; shows = refl; called = w.if-f.ensures } in
      rw w.f-is (record {
        len = refl;
        few = omega arith;
        later = omega arith;
        callable = rw add-one ((next_asked g.F.FnMut c.loop-start.f old start x here before.callable).1 false w.f.new.self called);
        rest = λ i low. refl;
        told = told_more (CalledAt g.F.FnMut) old old old c.args.f c.loop-start.f w.f.new.self start start start start start false x told here called
            (told.front ∙ sym (picked_push_false told.answers old)) (omega (arith, told.first));
        capacity = refl;
      })
]

pub f-stays-requires : goal.f-stays-requires
f-stays-requires g c =
    let now = c.loop-place.items.items in
    let old = c.args.items.now.items in
    let place = c.loop-place.place in
    let x = c.index-in-loop-place.result.now in
    let within : place < length now = omega (arith, c.loop-place-test.true, c.len-place-end.ensures, c.args.items.now.ok.0, c.loop-place.invariant.len) in
    let here : slice_get old place ≡ Some x = sym (c.loop-place.invariant.rest place (le_refl place)) ∙ slice_get_read now (length now) place x refl within c.index-in-loop-place.ensures in
    (next_asked g.F.FnMut c.loop-place.f old place x here c.loop-place.invariant.callable).0 c.index-in-loop-place.result refl

pub loop-place-preserved : goal.loop-place-preserved
loop-place-preserved g c =
    let now = c.loop-place.items.items in
    let old = c.args.items.now.items in
    let place = c.loop-place.place in
    let kept = c.loop-place.kept in
    let start = c.loop-start.start in
    let x = c.index-in-loop-place.result.now in
    let answer = c.f-stays.result in
    let before = c.loop-place.invariant in
    let within : place < length now = omega (arith, c.loop-place-test.true, c.len-place-end.ensures, c.args.items.now.ok.0, before.len) in
    let there : slice_get now place ≡ Some x = slice_get_read now (length now) place x refl within c.index-in-loop-place.ensures in
    let here : slice_get old place ≡ Some x = sym (before.rest place (le_refl place)) ∙ there in
    let called : CalledAt g.F.FnMut c.loop-place.f x answer c.f-stays.new.self = record { shown = c.index-in-loop-place.result; shows = refl; called = c.f-stays.ensures } in
    let callable : TakesInTurn g.F.FnMut c.f-stays.new.self (drop (place + 1) old) =
    rw add-one ((next_asked g.F.FnMut c.loop-place.f old place x here before.callable).1 answer c.f-stays.new.self called) in
    let e = exchanges now c.swap.new.self.items kept place (omega (arith, within, before.few)) within c.swap.ensures.items in
    let told = before.told in
    let same : slice_get old (length told.answers) ≡ Some x = ap (slice_get old) told.so_far ∙ here in
    record {
      len = e.len ∙ before.len;
      few = omega (arith, Bool-small answer, before.few);
      later = omega (arith, before.later);
      callable = callable;
      rest = λ i low. let u : i ≢ kept = omega (arith, low, before.few) in let v : i ≢ place = omega (arith, low) in e.others i u v ∙ before.rest i (omega (arith, low));
      told = told_more (CalledAt g.F.FnMut) old now c.swap.new.self.items c.args.f c.loop-place.f c.f-stays.new.self place kept start (kept + bool_byte answer) start answer x told here called
          (front_more answer told.answers old now c.swap.new.self.items kept place x before.few within there same c.swap.ensures.items told.front)
          (told.first ∙ later_no answer (first_no told.answers) (length told.answers) (omega (arith, told.first, told.so_far, before.later)));
      capacity = c.swap.ensures.capacity ∙ before.capacity;
    }

pub returns-clause-kept : goal.returns-clause-kept
returns-clause-kept g c =
    let told = c.loop-place.invariant.told in (
      told.answers,
      c.loop-place.f,
      omega (arith, told.so_far, c.loop-place-test.false, c.loop-place.auto.place-end, c.len-place-end.ensures, c.args.items.now.ok.0),
      told.asked,
      c.truncate.ensures.items ∙ told.front,
      told.first,
    )
