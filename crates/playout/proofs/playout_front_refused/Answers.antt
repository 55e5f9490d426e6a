use mathlib.Core.Path.{sym, ◌∙◌}
use Rattle.lists.proofs.Cases.{and_left}
use Rattle.playout.proofs.Writings.{puts_and, puts_no}
use Rattle.playout.proofs.playout_front_refused.Goals as goal

pub returns-then-is_front : goal.returns-then-is_front
returns-then-is_front c = puts_and (sym c.is_front.ensures ∙ c.if-is_front.true) c.write_refused.ensures

pub returns-else-is_front : goal.returns-else-is_front
returns-else-is_front c = puts_no _ _ _ (and_left _ (sym c.is_front.ensures ∙ c.if-is_front.false))
