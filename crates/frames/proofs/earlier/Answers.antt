use mathlib.Core.Path.{sym}
use borrow.Author.Tests.{le-leb, lt-leb}
use Rattle.lists.proofs.Cases.{chosen, other}
use Rattle.frames.proofs.earlier.Goals as goal

pub returns-then-a-b : goal.returns-then-a-b
returns-then-a-b c = sym (chosen _ (le-leb _ _ c.if-a-b.true))

pub returns-else-a-b : goal.returns-else-a-b
returns-else-a-b c = sym (other _ (lt-leb _ _ c.if-a-b.false))
