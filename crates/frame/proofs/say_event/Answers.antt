use mathlib.Core.Path.{sym, ap, ◌∙◌}
use Rattle.lines.specs.Lines.{lines_of}
use Rattle.frame.proofs.Writing.{start, says-out, out_as}
use Rattle.frame.proofs.say_event.Goals as goal

pub returns-in-Nothing : goal.returns-in-Nothing
unfolding lines_of
returns-in-Nothing c = let a = c.args in out_as (ap (lines_of a.frame a.identity) (sym c.in-Nothing.is ∙ c.said-said.ensures)) start

pub returns-in-One : goal.returns-in-One
returns-in-One c =
    let a = c.args in
    out_as (ap (lines_of a.frame a.identity) (sym c.in-One.is ∙ c.said-said.ensures)) (says-out c.say.ensures)

pub returns-in-Two : goal.returns-in-Two
returns-in-Two c =
    let a = c.args in
    out_as (ap (lines_of a.frame a.identity) (sym c.in-Two.is ∙ c.said-said.ensures)) (says-out c.say-in-Two.ensures)
