use mathlib.Core.Path.{sym, ◌∙◌}
use Rattle.lists.proofs.Cases.{chosen, other}
use Rattle.server.specs.Hearing.{backup_hears}
use Rattle.server.proofs.Server.backup_hears.Goals as goal

pub returns-then-for_this : goal.returns-then-for_this
unfolding backup_hears
returns-then-for_this c = sym (chosen _ (sym c.for_this.ensures ∙ c.if-for_this.true))

pub returns-then-lower_reveals : goal.returns-then-lower_reveals
unfolding backup_hears
returns-then-lower_reveals c =
    sym (other _ (sym c.for_this.ensures ∙ c.if-for_this.false)
    ∙ chosen _ (sym c.lower_reveals.ensures ∙ c.if-lower_reveals.true))

pub returns-else-lower_reveals : goal.returns-else-lower_reveals
unfolding backup_hears
returns-else-lower_reveals c =
    sym (other _ (sym c.for_this.ensures ∙ c.if-for_this.false)
    ∙ other _ (sym c.lower_reveals.ensures ∙ c.if-lower_reveals.false))
