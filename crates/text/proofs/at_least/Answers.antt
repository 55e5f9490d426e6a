use mathlib.Core.Path.{sym}
use borrow.Author.Tests.{le-leb, lt-leb}
use Rattle.lists.proofs.Cases.{chosen, other}
use Rattle.text.specs.Steps.{at_least}
use Rattle.text.proofs.at_least.Goals as goal

pub returns-then-n-least : goal.returns-then-n-least
unfolding at_least
returns-then-n-least c = sym (other _ (lt-leb _ _ c.if-n-least.true))

pub returns-else-n-least : goal.returns-else-n-least
unfolding at_least
returns-else-n-least c = sym (chosen _ (le-leb _ _ c.if-n-least.false))
