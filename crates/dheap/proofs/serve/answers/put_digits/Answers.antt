use Rattle.dheap.proofs.Common.{◌++◌, ◌-◌, ◌/◌, refl, ap, ◌∙◌, arith, decimal}
use Rattle.dheap.proofs.Decimals.{more_digits, one_digit, put_before, one_place_fewer}
use Rattle.dheap.proofs.serve.answers.put_digits.Goals as goal

pub loop-rest-init : goal.loop-rest-init
loop-rest-init c = record {
  low = omega arith;
  high = omega arith;
  fits = (19, refl, omega (arith, c.ranges.size.fits));
  put = refl;
}

pub loop-rest-preserved : goal.loop-rest-preserved
loop-rest-preserved c =
    let l = c.loop-rest in
    let fewer = one_place_fewer l.invariant.fits.0 l.begin l.rest c.loop-rest-test.true l.invariant.fits.1 l.invariant.fits.2 in
    record {
      low = omega (arith, fewer.1);
      high = omega (arith, l.invariant.high);
      fits = fewer;
      put = ap (λ t. decimal (l.rest / 10) ++ t) (put_before l.line (l.begin - 1) l.begin _ (omega (arith, l.invariant.low)) (omega (arith, l.invariant.high)))
          ∙ more_digits l.rest _ _ c.loop-rest-test.true l.auto.rest-fits.fits refl ∙ l.invariant.put;
    }

pub returns-clause-put : goal.returns-clause-put
returns-clause-put c =
    let l = c.loop-rest in
    put_before l.line (l.begin - 1) l.begin _ (omega (arith, l.invariant.low)) (omega (arith, l.invariant.high)) ∙ one_digit l.rest _ _ c.loop-rest-test.false refl ∙ l.invariant.put
