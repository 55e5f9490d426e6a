use mathlib.Core.Path.{sym, ◌∙◌}
use borrow.Author.Tests.{lt-ltb, le-ltb}
use Rattle.lists.proofs.Cases.{chosen, other}
use Rattle.places.proofs.rank_under.Goals as goal

pub returns-then-last-lt-SERVERS : goal.returns-then-last-lt-SERVERS
returns-then-last-lt-SERVERS c = c.wide.ensures ∙ sym (chosen _ (lt-ltb _ 16 c.if-last-lt-SERVERS.true))

pub returns-else-last-lt-SERVERS : goal.returns-else-last-lt-SERVERS
returns-else-last-lt-SERVERS c = sym (other _ (le-ltb _ 16 c.if-last-lt-SERVERS.false))
