use Rattle.dheap.proofs.Common.{◌≡◌, ◌^◌, ◌<◌, take, AllDigits, digits_value}
use Rattle.dheap.proofs.serve.script.line.leading_digits.Given as goal

-- the bytes before this place are digits, and write the number
abbrev pub invariant-loop-place : goal.invariant-loop-place
invariant-loop-place l = record {
  digits : AllDigits 10 (take l.place l.script);
  number : l.number ≡ digits_value 10 (take l.place l.script);
  short : l.number < 10 ^ l.place;
}
