use mathlib.Core.Path.{sym, ap, ◌∙◌}
use Rattle.periods.specs.Period.{of_period}
use Rattle.plain.proofs.Periods.{period-made, period-refused}
use Rattle.plain.proofs.period_of.Goals as goal

pub returns-in-Ok : goal.returns-in-Ok
returns-in-Ok c = period-made _ _ (sym (ap of_period c.in-Ok.is) ∙ c.of.ensures)

pub returns-in-Err : goal.returns-in-Err
returns-in-Err c = c.shortest.ensures ∙ period-refused _ c.in-Err.field-0 (sym (ap of_period c.in-Err.is) ∙ c.of.ensures)
