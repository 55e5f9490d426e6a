use mathlib.Core.Path.{sym, ◌∙◌}
use Rattle.lists.proofs.Cases.{chosen, other}
use Rattle.verbs.proofs.judge.Goals as goal

pub returns-then-names_nobody : goal.returns-then-names_nobody
returns-then-names_nobody c = sym (chosen _ (sym c.names_nobody.ensures ∙ c.if-names_nobody.true))

pub returns-then-known : goal.returns-then-known
returns-then-known c =
    sym (other _ (sym c.names_nobody.ensures ∙ c.if-names_nobody.false)
    ∙ chosen 8 (sym c.known.ensures ∙ c.if-known.true))

pub returns-else-known : goal.returns-else-known
returns-else-known c =
    sym (other _ (sym c.names_nobody.ensures ∙ c.if-names_nobody.false)
    ∙ other _ (sym c.known.ensures ∙ c.if-known.false))
