use Rattle.group.specs.Table.{is_new}
use Rattle.group.proofs.is_new.Goals as goal

pub returns : goal.returns
unfolding is_new
returns c =
    rw (
      c.role_number.ensures,
      c.role_number-2.ensures,
      c.anew-new.ensures,
    )
