use mathlib.Core.Path.{sym, ap, ◌∙◌}
use Rattle.roles.specs.Verbs.{of_allowed}
use Rattle.server.proofs.Acting.{refused_with, allowed}
use Rattle.server.proofs.Server.enter.Goals as goal

pub returns-in-Ok : goal.returns-in-Ok
returns-in-Ok c =
    allowed _ _ _ _ _ _
    (sym (ap of_allowed c.in-Ok.is) ∙ c.by_table.ensures)
    c.verb_event-event.ensures
    c.after.ensures

pub returns-in-Err : goal.returns-in-Err
returns-in-Err c =
    rw c.refused.ensures
    (refused_with _ _ _ _ _ _ (sym (ap of_allowed c.in-Err.is) ∙ c.by_table.ensures))
