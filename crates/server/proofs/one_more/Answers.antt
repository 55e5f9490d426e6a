use mathlib.Core.Path.{sym}
use borrow.Author.Tests.{lt-ltb, le-ltb}
use Rattle.lists.proofs.Cases.{chosen, other}
use Rattle.server.specs.Server.{one_more}
use Rattle.server.proofs.one_more.Goals as goal

pub returns-then-n-lt-BEATS : goal.returns-then-n-lt-BEATS
unfolding one_more
returns-then-n-lt-BEATS c = sym (chosen _ (lt-ltb _ _ c.if-n-lt-BEATS.true))

pub returns-else-n-lt-BEATS : goal.returns-else-n-lt-BEATS
unfolding one_more
returns-else-n-lt-BEATS c = sym (other _ (le-ltb _ _ c.if-n-lt-BEATS.false))
