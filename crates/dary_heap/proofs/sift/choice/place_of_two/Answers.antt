use Rattle.dary_heap.proofs.Common.{◌≡◌, ℕ, ◌+◌, Bool, true, false, if◌then◌else◌, refl, arith, bool_byte}
use Rattle.dary_heap.proofs.sift.Choosing.{greatest_of_pair}
use Rattle.dary_heap.proofs.sift.choice.place_of_two.Goals as goal

stepped : (t : Bool) (n : ℕ) → n + bool_byte t ≡ (if t then n + 1 else n)
stepped true n = refl
stepped false n = omega arith

pub returns : goal.returns
returns g c =
    let first = c.args.first in let t = c.at_most.result in
    record {
      greatest = greatest_of_pair g.met.J.Judge.total c.args.hole.now.items first _ _ (omega (arith, c.requires.within)) c.get.ensures c.get-2.ensures t
          (first + bool_byte t) c.at_most.ensures.answer (stepped t first);
      counted = omega (arith, c.at_most.ensures.counted);
    }
