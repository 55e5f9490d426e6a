-- A number has at most as many digits as its tenth and one more; the number falls.
use Rattle.std.proofs.Common.{arith, refl, sym, ◌/◌}
use Rattle.text.proofs.Digits.{length-one, length_more, width_few}
use Rattle.text.proofs.+width.Goals as goal

pub overflow_add-result : goal.overflow_add-result
overflow_add-result t c = omega (arith, width_few (c.args.n / 10) refl (omega arith))

pub returns-then-n-lt10 : goal.returns-then-n-lt10
returns-then-n-lt10 t c = sym (length-one _ c.if-n-lt10.true)

pub returns-else-n-lt10 : goal.returns-else-n-lt10
returns-else-n-lt10 t c = omega (arith, length_more c.args.n c.if-n-lt10.false)
