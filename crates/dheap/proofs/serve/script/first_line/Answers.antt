use Rattle.dheap.proofs.Common.{rules, suc, drop, arith, ◌+◌, ◌∷◌, take, ◌==◌, ◌≡◌, true, false, sym, ap, ◌∙◌, YieldsList-from_slice, IsFirst-from_position, tests, take_rest, lines_of}
use Rattle.dheap.proofs.Scripts.{cut, uncut}
use Rattle.dheap.proofs.serve.script.first_line.Goals as goal

pub returns-in-Some : goal.returns-in-Some
returns-in-Some c =
    let first = IsFirst-from_position _ _ _ (λ b. (b == 10) ≡ true) (λ b. (b == 10) ≡ false) c.in-Some.ensures.ran (YieldsList-from_slice c.args.script.now c.iter.ensures.rest)
    (λ x q k. search (rules, tests)) (λ x q k. search (rules, tests)) in
    let next : suc c.in-Some.place ≡ c.in-Some.place + 1 = omega arith in
    cut (λ b. b == 10) c.args.script.now c.in-Some.place first.0 first.2 first.1
    ∙ ap (λ n. take c.in-Some.place c.args.script.now ∷ lines_of (drop n c.args.script.now)) next
    ∙ ap (λ rest. take c.in-Some.place c.args.script.now ∷ lines_of rest) (sym (take_rest c.args.script.now (c.in-Some.place + 1)))

pub returns-in-None : goal.returns-in-None
returns-in-None c =
    let first = IsFirst-from_position _ _ _ (λ b. (b == 10) ≡ true) (λ b. (b == 10) ≡ false) c.in-None.ensures.ran (YieldsList-from_slice c.args.script.now c.iter.ensures.rest)
    (λ x q k. search (rules, tests)) (λ x q k. search (rules, tests)) in
    uncut (λ b. b == 10) c.args.script.now first
