-- Prices in a heap that takes the place of std's, and what its callers take out of it.
use Rattle.std.specs.Prelude.{◌≡◌, ℕ, ◌+◌, ◌≤◌, nat_le, List, [], ◌∷◌, slice_get, Some, All, Contains, filter}
use Rattle.std.specs.BTreeMap.{BTreeMap, get}
use Rattle.std.specs.Option.{option_map_or}
use Rattle.std.specs.Ordering.{nat_cmp}
use Rattle.dary_heap.specs.Bag.{IsSameBag}
use Rattle.dary_heap.specs.Contents.{Contents}

-- no price is higher
abbrev pub NoneHigher : ℕ → List ℕ → Type 0
NoneHigher price prices = All (λ other. other ≤ price) prices

-- the prices up to a limit
abbrev pub up_to : ℕ → List ℕ → List ℕ
up_to limit prices = filter (λ price. nat_le price limit) prices

-- no price is higher than one before it
abbrev pub Falls : List ℕ → Type 0
Falls prices = (i j x y : ℕ) → i ≤ j → slice_get prices i ≡ Some x → slice_get prices j ≡ Some y → y ≤ x

-- two prices were taken out, the first exceeds the second by the lead, and none that stays exceeds the second
pub record IsLead (old : List ℕ) (lead : ℕ) (new : List ℕ) : Type 0 where
  pub first : ℕ
  pub second : ℕ
  pub bag : IsSameBag old (first ∷ second ∷ new)
  pub exceeds : first ≡ second + lead
  pub below : NoneHigher second new

-- both ends are among the prices, and no price is lower than the one or higher than the other
pub record IsRange (prices : List ℕ) (low high : ℕ) : Type 0 where
  pub has_low : Contains prices low
  pub has_high : Contains prices high
  pub none_lower : All (λ price. low ≤ price) prices
  pub none_higher : NoneHigher high prices

-- the prices for a place, none if there is no heap for it
abbrev pub prices_at : ℕ → BTreeMap ℕ (Contents ℕ) → List ℕ
prices_at place places = option_map_or (λ heap. heap.items) (get nat_cmp places place) []
