use Rattle.dheap.proofs.Common.{◌≡◌, ◌++◌, flat_map, codes, take, signed_decimal}
use Rattle.dheap.proofs.serve.answers.write_items.Given as goal

-- those before this place are written, each with a space after it
abbrev pub invariant-loop-item : goal.invariant-loop-item
invariant-loop-item l = l.buffer.items ≡ l.initial.buffer.items ++ flat_map (λ x. signed_decimal x ++ codes " ") (take l.item-index l.others)
