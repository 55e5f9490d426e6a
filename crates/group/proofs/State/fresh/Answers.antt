use mathlib.Core.Path.{◌∙◌, sym, ap}
use Rattle.periods.specs.Period.{of_period}
use Rattle.group.proofs.Opening.{period-is, badly, opens_not}
use Rattle.group.proofs.State.fresh.Goals as goal

pub open_with-requires : goal.open_with-requires
open_with-requires c =
    let a = c.args in
    (period-is a.period (sym (ap of_period c.in-Ok.is) ∙ c.of.ensures)).1

pub returns-in-Ok : goal.returns-in-Ok
returns-in-Ok c =
    let a = c.args in
    let same = (period-is a.period (sym (ap of_period c.in-Ok.is) ∙ c.of.ensures)).0 in
    rw same at c.open_with.ensures

pub returns-in-Err : goal.returns-in-Err
returns-in-Err c =
    let a = c.args in
    opens_not a.table a.period _
    (badly a.table a.period (sym (ap of_period c.in-Err.is) ∙ c.of.ensures))
    c.unopened.ensures
