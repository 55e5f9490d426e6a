use mathlib.Core.Path.{ap, ◌∙◌}
use Rattle.lists.specs.Choice.{choose}
use Rattle.day.specs.Read.{verb_named}
use Rattle.dayline.proofs.verb_named.Goals as goal

pub returns : goal.returns
unfolding verb_named
returns c =
    c.called.ensures
    ∙ ap (choose _ _)
    (c.called-ready.ensures
    ∙ ap (choose _ _)
    (c.called-unready.ensures
    ∙ ap (choose _ _)
    (c.called-pass.ensures
    ∙ ap (choose _ _)
    (c.called-crash.ensures
    ∙ ap (choose _ _)
    (c.called-restart.ensures
    ∙ ap (choose _ _)
    (c.called-cut.ensures
    ∙ ap (choose _ _)
    c.called-mend.ensures))))))
