-- What is printed of replies.
use Rattle.std.specs.Prelude.{ℕ, ℤ, true, false, List, [], ◌∷◌, ◌++◌, flat_map, take_while, is_some, Option, Some, None, codes, decimal}
use Rattle.std.specs.Fmt.{signed_decimal}
use Rattle.dary_heap.specs.Machine.{Reply, Pushed, Popped, Asked, Size, Done, Taken}

-- the numbers, separated by one space
abbrev pub listing : List ℤ → List ℕ
listing [] = codes "none"
listing (x ∷ xs) = signed_decimal x ++ flat_map (λ y. codes " " ++ signed_decimal y) xs

-- the answer that a reply makes: none if it says that memory allocation failed
abbrev pub answer : Reply ℤ → Option (List ℕ)
answer Pushed = Some (codes "ok")
answer Done = Some (codes "ok")
answer (Popped (Some x)) = Some (signed_decimal x)
answer (Popped None) = Some (codes "none")
answer (Asked (Some true)) = Some (codes "yes")
answer (Asked (Some false)) = Some (codes "no")
answer (Asked None) = Some (codes "none")
answer (Size n) = Some (decimal n)
answer (Taken xs) = Some (listing xs)
answer reply = None

-- a line of its own
abbrev pub line : Option (List ℕ) → List ℕ
line None = []
line (Some text) = text ++ codes "\n"

-- the answers to the replies, one per line
abbrev pub text : List (Reply ℤ) → List ℕ
text replies = flat_map (λ reply. line (answer reply)) replies

-- the replies before the first that says that memory allocation failed
abbrev pub answered : List (Reply ℤ) → List (Reply ℤ)
answered replies = take_while (λ reply. is_some (answer reply)) replies
