use Rattle.playout.proofs.Fronts.{hears_well_lem, hears-ill}
use Rattle.playout.proofs.heard.Goals as goal

pub returns-then-is_front-is_heartbeat : goal.returns-then-is_front-is_heartbeat
returns-then-is_front-is_heartbeat c = hears_well_lem _ _ _ (rw (c.is_heartbeat.ensures, c.is_front.ensures) at c.if-is_front-is_heartbeat.true) c.hears.ensures

pub returns-else-is_front-is_heartbeat : goal.returns-else-is_front-is_heartbeat
returns-else-is_front-is_heartbeat c = hears-ill _ _ (rw (c.is_heartbeat.ensures, c.is_front.ensures) at c.if-is_front-is_heartbeat.false)
