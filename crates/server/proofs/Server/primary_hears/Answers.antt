use mathlib.Core.Path.{sym, ◌∙◌}
use Rattle.lists.proofs.Cases.{chosen, other}
use Rattle.server.specs.Hearing.{primary_hears}
use Rattle.server.proofs.Server.primary_hears.Goals as goal

pub returns-then-from_higher : goal.returns-then-from_higher
unfolding primary_hears
returns-then-from_higher c = sym (chosen _ (sym c.from_higher.ensures ∙ c.if-from_higher.true))

pub returns-then-replies : goal.returns-then-replies
unfolding primary_hears
returns-then-replies c =
    sym (other _ (sym c.from_higher.ensures ∙ c.if-from_higher.false)
    ∙ chosen _ (sym c.replies.ensures ∙ c.if-replies.true))

pub returns-then-from_lower : goal.returns-then-from_lower
unfolding primary_hears
returns-then-from_lower c =
    sym (other _ (sym c.from_higher.ensures ∙ c.if-from_higher.false)
    ∙ other _ (sym c.replies.ensures ∙ c.if-replies.false)
    ∙ chosen _ (sym c.from_lower.ensures ∙ c.if-from_lower.true))

pub returns-else-from_lower : goal.returns-else-from_lower
unfolding primary_hears
returns-else-from_lower c =
    sym (other _ (sym c.from_higher.ensures ∙ c.if-from_higher.false)
    ∙ other _ (sym c.replies.ensures ∙ c.if-replies.false)
    ∙ other _ (sym c.from_lower.ensures ∙ c.if-from_lower.false))
