use native.Mathlib.Omega.{arith}
use lib.ListN.{length-append}
use Rattle.text.specs.Digits.{digits}
use Rattle.text.specs.Words.{bytes}
use Rattle.lines.proofs.Pieces.{few}
use Rattle.lines.proofs.refused_length.Goals as goal

pub overflow_add-result : goal.overflow_add-result
overflow_add-result c = let a = c.args in omega (arith, few a.identity c.width.ensures (omega arith), few a.n c.width-2.ensures (omega arith))

pub overflow_add-result-2 : goal.overflow_add-result-2
overflow_add-result-2 c = let a = c.args in omega (arith, few a.identity c.width.ensures (omega arith), few a.n c.width-2.ensures (omega arith))

pub returns : goal.returns
returns c = let a = c.args in omega (arith, c.width.ensures, c.width-2.ensures, length-append (bytes "refused-") (digits a.n))
