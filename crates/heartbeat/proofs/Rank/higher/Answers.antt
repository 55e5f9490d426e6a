use mathlib.Core.Path.{sym}
use borrow.Author.Tests.{eq-eqb, ne_eqb}
use Rattle.lists.proofs.Cases.{chosen, other}
use Rattle.heartbeat.specs.Rank.{higher}
use Rattle.heartbeat.proofs.Rank.higher.Goals as goal

pub returns-then-self-other : goal.returns-then-self-other
unfolding higher
returns-then-self-other c = sym (chosen _ (eq-eqb _ _ c.if-self-other.true))

pub returns-else-self-other : goal.returns-else-self-other
unfolding higher
returns-else-self-other c = sym (other _ (ne_eqb _ _ c.if-self-other.false))
