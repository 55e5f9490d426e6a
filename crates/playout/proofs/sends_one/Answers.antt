use Rattle.playout.proofs.sends_one.Goals as goal

pub returns : goal.returns
returns c = rw c.plain_heartbeat-heartbeat.ensures
