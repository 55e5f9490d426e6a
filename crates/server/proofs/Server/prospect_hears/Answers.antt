use mathlib.Core.Path.{sym, ◌∙◌}
use Rattle.lists.proofs.Cases.{chosen, other}
use Rattle.server.specs.Hearing.{prospect_hears}
use Rattle.server.proofs.Server.prospect_hears.Goals as goal

pub returns-then-from_higher : goal.returns-then-from_higher
unfolding prospect_hears
returns-then-from_higher c = sym (chosen _ (sym c.from_higher.ensures ∙ c.if-from_higher.true))

pub returns-then-replies : goal.returns-then-replies
unfolding prospect_hears
returns-then-replies c =
    sym (other _ (sym c.from_higher.ensures ∙ c.if-from_higher.false)
    ∙ chosen _ (sym c.replies.ensures ∙ c.if-replies.true))

pub returns-else-replies : goal.returns-else-replies
unfolding prospect_hears
returns-else-replies c =
    sym (other _ (sym c.from_higher.ensures ∙ c.if-from_higher.false)
    ∙ other _ (sym c.replies.ensures ∙ c.if-replies.false))
