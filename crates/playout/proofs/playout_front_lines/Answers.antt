use Rattle.playout.proofs.Writings.{puts_yes, puts_no}
use Rattle.playout.proofs.playout_front_lines.Goals as goal

pub returns-then-is_front-is_event : goal.returns-then-is_front-is_event
returns-then-is_front-is_event c = puts_yes _ (rw (c.is_event.ensures, c.is_front.ensures) at c.if-is_front-is_event.true) c.write_lines.ensures

pub returns-else-is_front-is_event : goal.returns-else-is_front-is_event
returns-else-is_front-is_event c = puts_no _ _ _ (rw (c.is_event.ensures, c.is_front.ensures) at c.if-is_front-is_event.false)
