use mathlib.Core.Path.{sym}
use borrow.Author.Tests.{lt-ltb, le-ltb}
use Rattle.lists.proofs.Cases.{chosen, other}
use Rattle.calls.proofs.lesser.Goals as goal

pub returns-then-m-n : goal.returns-then-m-n
returns-then-m-n c = sym (chosen _ (lt-ltb _ _ c.if-m-n.true))

pub returns-else-m-n : goal.returns-else-m-n
returns-else-m-n c = sym (other _ (le-ltb _ _ c.if-m-n.false))
