use native.Mathlib.Omega.{arith}
use Rattle.frame.proofs.Quiet.{due-before, due-from}
use Rattle.frames.proofs.due.Goals as goal

pub returns-then-at-frame : goal.returns-then-at-frame
returns-then-at-frame c = due-before c.if-at-frame.true

pub returns-then-at : goal.returns-then-at
returns-then-at c = due-from (omega arith)

pub returns : goal.returns
returns c = due-from (omega arith)
