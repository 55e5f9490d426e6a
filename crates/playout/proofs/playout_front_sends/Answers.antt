use mathlib.Core.Path.{sym}
use Rattle.lists.proofs.Cases.{chosen, other}
use Rattle.playout.specs.Front.{front_sends}
use Rattle.playout.proofs.playout_front_sends.Goals as goal

pub returns-then-is_front-is_sent : goal.returns-then-is_front-is_sent
unfolding front_sends
returns-then-is_front-is_sent c = rw (c.sends_of.ensures, c.event_of.ensures, c.server_of.ensures) (sym (chosen _ (rw (c.is_sent.ensures, c.is_front.ensures) at c.if-is_front-is_sent.true)))

pub returns-else-is_front-is_sent : goal.returns-else-is_front-is_sent
unfolding front_sends
returns-else-is_front-is_sent c = rw c.no_heartbeat-heartbeat.ensures (sym (other _ (rw (c.is_sent.ensures, c.is_front.ensures) at c.if-is_front-is_sent.false)))
