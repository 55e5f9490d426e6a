-- The digits of the tenth are written first, then the last digit after them; the number falls.
use Rattle.std.proofs.Common.{arith, ◌<◌, length}
use Rattle.text.specs.Digits.{last_digit}
use Rattle.text.proofs.Digits.{digits-one, digits_more, length-one, length_more}
use Rattle.text.proofs.Writing.{writes_one, writes_more, written-end}
use Rattle.text.proofs.+put_digits.Goals as goal

pub bounds-out-at : goal.bounds-out-at
bounds-out-at t c = omega (arith, length-one c.args.n c.if-n-lt10.true)

pub overflow_add-result : goal.overflow_add-result
overflow_add-result t c = omega (arith, length-one c.args.n c.if-n-lt10.true)

pub returns-then-n-lt10 : goal.returns-then-n-lt10
returns-then-n-lt10 t c =
    let a = c.args in
    let h : a.at < length a.out.now = omega (arith, length-one a.n c.if-n-lt10.true) in
    rw (digits-one a.n c.if-n-lt10.true) (writes_one (last_digit a.n) h)

pub put_digits-last-requires : goal.put_digits-last-requires
put_digits-last-requires t c = omega (arith, length_more c.args.n c.if-n-lt10.false)

pub bounds-out-last : goal.bounds-out-last
bounds-out-last t c =
    omega (
      arith,
      length_more c.args.n c.if-n-lt10.false,
      written-end (omega (arith, length_more c.args.n c.if-n-lt10.false)) c.put_digits-last.ensures,
    )

pub overflow_add-result-else-n-lt10 : goal.overflow_add-result-else-n-lt10
overflow_add-result-else-n-lt10 t c =
    omega (
      arith,
      length_more c.args.n c.if-n-lt10.false,
      written-end (omega (arith, length_more c.args.n c.if-n-lt10.false)) c.put_digits-last.ensures,
    )

pub returns-else-n-lt10 : goal.returns-else-n-lt10
returns-else-n-lt10 t c =
    let a = c.args in
    let more = c.if-n-lt10.false in
    rw (digits_more a.n more) (writes_more (last_digit a.n) (omega (arith, length_more a.n more)) c.put_digits-last.ensures)
