use native.Mathlib.Omega.{arith}
use Rattle.feeding.proofs.Refusals.{refusal-long}
use Rattle.feed.proofs.Making.{few}
use Rattle.feed.proofs.refusal_length.Goals as goal

pub overflow_add-result : goal.overflow_add-result
overflow_add-result c = let a = c.args in omega (arith, few a.number c.width.ensures (omega arith), few a.n c.width-2.ensures (omega arith))

pub overflow_add-result-2 : goal.overflow_add-result-2
overflow_add-result-2 c = let a = c.args in omega (arith, few a.number c.width.ensures (omega arith), few a.n c.width-2.ensures (omega arith))

pub returns : goal.returns
returns c = let a = c.args in omega (arith, c.width.ensures, c.width-2.ensures, refusal-long a.number a.n)
