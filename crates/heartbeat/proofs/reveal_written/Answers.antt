use mathlib.Core.Path.{sym, ap}
use mathlib.Core.Bool.{not}
use borrow.Author.Tests.{eq-eqb, ne_eqb}
use Rattle.lists.proofs.Cases.{chosen, other}
use Rattle.heartbeat.proofs.reveal_written.Goals as goal

pub returns-then-reveal-eq0 : goal.returns-then-reveal-eq0
returns-then-reveal-eq0 c = sym (other _ (ap not (eq-eqb _ _ c.if-reveal-eq0.true)))

pub returns-else-reveal-eq0 : goal.returns-else-reveal-eq0
returns-else-reveal-eq0 c = sym (chosen _ (ap not (ne_eqb _ _ c.if-reveal-eq0.false)))
