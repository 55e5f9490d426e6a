use native.Mathlib.Omega.{arith}
use Rattle.judge.proofs.Holding.{in_order}
use Rattle.judge.proofs.Judge.held.Goals as goal

pub overflow_sub-result : goal.overflow_sub-result
overflow_sub-result c = let o = (in_order c.args.self c.args.n).0 in omega arith
