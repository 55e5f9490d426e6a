use mathlib.Core.Path.{ap, ◌∙◌}
use Rattle.plain.specs.Plain.{plain_table}
use Rattle.playout.proofs.adds.Goals as goal

pub returns : goal.returns
returns c = let g = rw c.table_of.ensures at c.add-added.ensures in record { number = c.verdict_number.ensures ∙ g.number; table = c.plain_table.ensures ∙ ap plain_table g.table }
