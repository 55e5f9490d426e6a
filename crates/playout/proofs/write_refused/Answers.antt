use mathlib.Core.Path.{sym, ◌∙◌}
use Rattle.playout.proofs.Writings.{puts, puts_yes, puts_no}
use Rattle.playout.proofs.write_refused.Goals as goal

pub returns-then-is_refusal : goal.returns-then-is_refusal
returns-then-is_refusal c = puts_yes _ (sym c.is_refusal.ensures ∙ c.if-is_refusal.true) (puts (rw c.refusal_of.ensures at c.write_refused.ensures) c.written_of.ensures)

pub returns-else-is_refusal : goal.returns-else-is_refusal
returns-else-is_refusal c = puts_no _ _ _ (sym c.is_refusal.ensures ∙ c.if-is_refusal.false)
