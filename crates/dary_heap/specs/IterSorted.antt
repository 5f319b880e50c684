-- What a clause sees of an `IterSorted`, and what its calls of `next` give.
use Rattle.std.specs.Prelude.{◌≡◌, ℕ, ◌+◌, ◌-◌, ◌<◌, ◌↔◌, min, List, ◌∷◌, length, map, Option, IsSome, IfSome, IfNone, if◌then◌else◌, ◌==◌}
use Rattle.std.specs.Iterator.{Yields, Drains}
use denote.Ref.{Bor}
use Rattle.std.specs.declared.cmp.Ordering.{Ordering}
use Rattle.dary_heap.specs.Bag.{IsSameBag, IsGreatest}
use Rattle.dary_heap.specs.Bounds.{RisesWithin, candidates_bound, next_bound}
use Rattle.dary_heap.specs.Popping.{IsGivenDescending}

-- how many items were given so far, the items that were not, how many of them will be, how many candidates there is room for, and how many comparisons were made
pub record InOrder (T : Type 0) : Type 0 where
  pub given : ℕ
  pub rest : List T
  pub left : ℕ
  pub room : ℕ
  pub comparisons : ℕ

-- none of these items was given yet, and as many will be as are asked for, or all. There is room for the candidates, and for no more than there are items
pub record StartsInOrder {T : Type 0} (D most : ℕ) (items : List T) (it : InOrder T) : Type 0 where
  pub none_given : it.given ≡ 0
  pub bag : IsSameBag items it.rest
  pub left : it.left ≡ min most (length items)
  pub room : it.room ≡ (if it.left == 0 then 0 else min (length items) (candidates_bound D it.left))

-- it made as many comparisons as a clone of a judge that has made so many
pub record ComparesByClone {J T : Type 0} (is_clone : J → J → Type 0) (count : J → ℕ) (made : ℕ) (it : InOrder T) : Type 0 where
  pub judge : J
  pub compared : count judge ≡ made
  pub copy : J
  pub cloned : is_clone judge copy
  pub comparisons : it.comparisons ≡ count copy

-- the item that a reference shows
abbrev pub lent : {T : Type 0} → Bor T → T
lent item = item.now

-- a call of `next` took old to new and gave this item, if it gave one, which shows a greatest of those that were not given before; none exactly if none was left to give, and then nothing changes
pub record GivesNext {A T : Type 0} (shown : A → T) (cmp : T → T → Ordering) (D : ℕ) (old : InOrder T) (item : Option A) (new : InOrder T) : Type 0 where
  pub variant : IsSome item ↔ (0 < old.left)
  pub greatest : IfSome item (λ x. IsGreatest cmp old.rest (shown x))
  pub bag : IfSome item (λ x. IsSameBag old.rest (shown x ∷ new.rest))
  pub given : IfSome item (λ _. new.given ≡ old.given + 1)
  pub left : new.left ≡ old.left - 1
  pub counted : RisesWithin old.comparisons new.comparisons (next_bound D old.given)
  pub room : new.room ≡ old.room
  pub unchanged : IfNone item (new ≡ old)

-- whatever calls of `next` give from here on shows, in descending order, a greatest part of the items that were not given before, and up to `None` as many as were left to give
pub record GivesGreatest {A T : Type 0} (shown : A → T) (cmp : T → T → Ordering) (D : ℕ) (from : InOrder T) : Type 0 where
  pub part : (xs : List A) (later : InOrder T) → Yields (GivesNext shown cmp D) from xs later → IsGivenDescending cmp from.rest (map shown xs) later.rest
  pub count : (xs : List A) (later : InOrder T) → Yields (GivesNext shown cmp D) from xs later → later.left + length xs ≡ from.left
  pub all : (xs : List A) → Drains (GivesNext shown cmp D) from xs → (length xs ≡ from.left) × (rest : List T) × IsGivenDescending cmp from.rest (map shown xs) rest
