use native.Mathlib.Omega.{arith}
use Rattle.judge.proofs.Giving.{begun-by}
use Rattle.judge.proofs.Judge.begin.Goals as goal

pub returns : goal.returns
returns c = begun-by c.begin-begun.ensures (let n = c.begin-arg-1.given.0 in omega (arith, n)) c.bytes.ensures
