use mathlib.Core.Path.{ap₂, ◌∙◌}
use native.Mathlib.Omega.{arith}
use Rattle.roles.specs.Verbs.{cell}
use Rattle.roles.proofs.Table.{role-below, verb-below, cell-right, cell-small}
use Rattle.roles.proofs.entered.Goals as goal

pub overflow_cast-role_number : goal.overflow_cast-role_number
overflow_cast-role_number c = omega (arith, c.role_number.ensures, role-below c.args.role)

pub cell-requires : goal.cell-requires
cell-requires c =
    let a = c.args in (
      omega (arith, c.role_number.ensures, role-below a.role),
      omega (arith, c.verb_number.ensures, verb-below a.verb),
    )

pub returns : goal.returns
returns c =
    let a = c.args in
    let e = c.cell.ensures ∙ ap₂ cell c.role_number.ensures c.verb_number.ensures in
    (rw e (cell-right a.role a.verb), rw e (cell-small a.role a.verb))
