use Rattle.dary_heap.proofs.Common.{length, refl, arith, slice_get_read}
use Rattle.dary_heap.proofs.sift.Choosing.{greatest_of_one}
use Rattle.dary_heap.proofs.sift.choice.item_at.Goals as goal

pub returns : goal.returns
returns g c = λ order.
    let xs = c.args.hole.now.items in
    record {
      greatest = greatest_of_one order c.args.place xs;
      there = slice_get_read xs (length xs) c.args.place c.get.result.now refl (omega (arith, c.requires.within)) c.get.ensures;
    }
