use mathlib.Core.Path.{sym, ap, ◌∙◌}
use borrow.Author.Tests.{lt-ltb, le-ltb}
use Rattle.lists.proofs.Cases.{chosen, other}
use Rattle.refusal.specs.Answer.{refused}
use Rattle.roles.specs.Verbs.{of_cell}
use Rattle.roles.proofs.by_table.Goals as goal

pub returns-then-n-lt12 : goal.returns-then-n-lt12
unfolding of_cell
returns-then-n-lt12 c = sym (chosen _ (lt-ltb _ _ c.if-n-lt12.true)) ∙ c.entered-n.ensures.0

pub returns-else-n-lt12 : goal.returns-else-n-lt12
unfolding of_cell
returns-else-n-lt12 c = ap refused c.refusal_of.ensures ∙ sym (other _ (le-ltb _ _ c.if-n-lt12.false)) ∙ c.entered-n.ensures.0
