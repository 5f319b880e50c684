use Rattle.dheap.proofs.Common.{◌≡◌, ◌+◌, ◌^◌, ◌<◌, ◌≤◌, ℕ, suc, get_or, arith}
use Rattle.std.proofs.Math.Nat.{pow-le-pow_right}
use Rattle.std.proofs.lemmas.Int.Digits.{digits_more, digits_value_more}
use Rattle.std.proofs.lemmas.Str.{digit_value_digit}
use Rattle.dheap.proofs.serve.script.line.leading_digits.Goals as goal

-- fewer than 19 digits leave room for one more
room_for_one : (i n : ℕ) → i < 19 → n < 10 ^ i → n < 10 ^ 18
room_for_one i n few short =
    let fewer : i ≤ 18 = omega (arith, few) in
    omega (arith, short, pow-le-pow_right {n = 10} (omega arith) fewer)

pub overflow_mul-number : goal.overflow_mul-number
overflow_mul-number c = omega (arith, room_for_one c.loop-place.place c.loop-place.number (omega arith) c.loop-place.invariant.short)

pub overflow_add-number : goal.overflow_add-number
overflow_add-number c = omega (arith, c.if-not-is_ascii_digit.ensures.cases, room_for_one c.loop-place.place c.loop-place.number (omega arith) c.loop-place.invariant.short)

pub loop-place-preserved : goal.loop-place-preserved
loop-place-preserved c =
    let l = c.loop-place in
    let script = c.args.script.now in
    let range = c.if-not-is_ascii_digit.ensures.cases in
    let digit = digit_value_digit (get_or script l.place 0) range in
    let next : l.place + 1 ≡ suc l.place = omega arith in
    record {
      digits = digits_more 10 script l.place (omega arith) l.invariant.digits (omega (arith, digit, range));
      number = omega (arith, digits_value_more 10 script l.place (omega arith), digit, l.invariant.number);
      short = rw next (omega (arith, range, l.invariant.short));
    }
