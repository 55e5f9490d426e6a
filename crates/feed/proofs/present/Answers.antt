use mathlib.Core.Path.{sym, ap}
use native.Mathlib.Omega.{arith}
use lib.ListN.{length}
use lib.Seq.{take_all, length-take-le}
use Rattle.feed.proofs.present.Goals as goal

pub returns-then-n-all : goal.returns-then-n-all
returns-then-n-all c = let a = c.args in sym (length-take-le a.n a.line.now (omega arith))

pub returns-else-n-all : goal.returns-else-n-all
returns-else-n-all c = let a = c.args in sym (ap length (take_all a.n a.line.now (omega arith)))
