use Rattle.playout.proofs.sends_none.Goals as goal

pub returns : goal.returns
returns c = rw c.no_heartbeat-heartbeat.ensures
