use Rattle.playout.proofs.ticks.Goals as goal

pub returns : goal.returns
returns c = rw (c.role_number.ensures, c.event_number-3.ensures, c.event_number-2.ensures, c.event_number.ensures, c.plain_front.ensures, c.timed-next.ensures, c.front_of.ensures)
