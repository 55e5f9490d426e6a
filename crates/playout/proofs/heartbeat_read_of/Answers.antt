use Rattle.playout.proofs.heartbeat_read_of.Goals as goal

pub returns-in-Ok : goal.returns-in-Ok
returns-in-Ok c = rw (c.in-Ok.is, c.plain_heartbeat-heartbeat.ensures)

pub returns-in-Err : goal.returns-in-Err
returns-in-Err c = rw (c.in-Err.is, c.number.ensures, c.no_heartbeat-heartbeat.ensures)
