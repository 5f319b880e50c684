use Rattle.dheap.proofs.Common.{rules, ◌≡◌, ℤ, pos, ◌++◌, flat_map, codes, get_or, take, ap, sym, ◌∙◌, flat_map_more, take_all, take_more, signed_decimal}
use Rattle.dheap.proofs.Decimals.{listing_buffered}
use Rattle.dheap.proofs.serve.answers.write_items.Goals as goal

pub returns : goal.returns
returns c =
    let others = c.in-Some.others.now in
    let all = take_all c.loop-item.item-index others c.loop-item-test.false in
    listing_buffered c.write_item-2.result c.args.items.now others _ c.args.buffer.now.items c.loop-item.buffer.items _ (search rules)
    (c.loop-item.invariant ∙ ap (λ xs. c.args.buffer.now.items ++ flat_map (λ x. signed_decimal x ++ codes " ") xs) all) c.write_item-2.ensures

pub loop-item-preserved : goal.loop-item-preserved
loop-item-preserved c =
    let l = c.loop-item in
    let others = c.in-Some.others.now in
    let spaced = λ (x : ℤ). signed_decimal x ++ codes " " in
    let item = get_or others l.item-index (pos 0) in
    let written : c.write_item.new.buffer.items ≡ l.buffer.items ++ spaced item = search rules in
    written ∙ ap (λ xs. xs ++ spaced item) l.invariant ∙ flat_map_more spaced c.args.buffer.now.items (take l.item-index others) item
    ∙ ap (λ xs. c.args.buffer.now.items ++ flat_map spaced xs) (sym (take_more others l.item-index (pos 0) c.loop-item-test.true))
