use Rattle.front.proofs.Front.acted.Goals as goal

pub returns : goal.returns
returns c =
    let acts = c.act-acted.ensures in
    let now = c.with_server.ensures in
    record { number = acts.number; event = acts.event; role = rw now; front = rw (now, acts.server) }
