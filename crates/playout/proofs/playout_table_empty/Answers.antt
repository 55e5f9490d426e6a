use mathlib.Core.Path.{ap, ◌∙◌}
use Rattle.plain.specs.Plain.{plain_table}
use Rattle.plain.proofs.Laws.{laws}
use Rattle.playout.proofs.Staying.{stays_plain}
use Rattle.playout.proofs.Chains.{plain_calls_settle}
use Rattle.playout.proofs.playout_table_empty.Goals as goal

pub returns : goal.returns
returns c = record { table = c.plain_table.ensures ∙ ap plain_table c.empty.ensures; laws = laws; stays = stays_plain; settles = plain_calls_settle }
