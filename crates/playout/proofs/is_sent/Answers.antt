use Rattle.playout.proofs.is_sent.Goals as goal

pub returns : goal.returns
returns c = rw (c.is_event.ensures, c.event_number-passed.ensures)
