use native.Mathlib.Omega.{arith}
use Rattle.places.proofs.Order.{better_is, better_not}
use Rattle.places.proofs.Best.or.Goals as goal

pub returns-then-n-under : goal.returns-then-n-under
returns-then-n-under c = (better_is _ _ _ _ _ c.wide-n.ensures c.if-n-under.true, omega arith)

pub returns-else-n-under : goal.returns-else-n-under
returns-else-n-under c = (better_not _ _ _ _ _ c.wide-n.ensures c.if-n-under.false, omega arith)
