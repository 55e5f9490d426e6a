use mathlib.Core.Bool.{not}
use mathlib.Core.Path.{ap}
use borrow.Author.Tests.{eq-eqb, ne_eqb}
use Rattle.text.proofs.Writing.{refuses-first, goes_on_lem}
use Rattle.heartbeat.proofs.Back.{trips}
use Rattle.heartbeat.proofs.Heartbeat.write.Goals as goal

pub returns-then-self-eq0 : goal.returns-then-self-eq0
returns-then-self-eq0 c = record { writes = refuses-first _ (ap not (eq-eqb _ _ c.if-self-eq0.true)); trips = trips }

pub returns-else-self-eq0 : goal.returns-else-self-eq0
returns-else-self-eq0 c =
    record { writes = goes_on_lem (ap not (ne_eqb _ _ c.if-self-eq0.false)) c.write_line.ensures; trips = trips }
