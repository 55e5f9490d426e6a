use Rattle.std.specs.Prelude.{Err}
use mathlib.Core.Path.{ap, ◌∙◌}
use Rattle.lists.specs.Choice.{choose}
use Rattle.group.specs.declared.State.{State}
use Rattle.group.specs.Table.{anew}
use Rattle.group.proofs.unopened.Goals as goal

pub returns : goal.returns
unfolding anew choose
returns c =
    let k = c.args.k in
    ap (λ (x : State). record { verdict = Err k; state = x }) (c.open-state.ensures ∙ rw (c.empty-table.ensures, c.shortest.ensures))
