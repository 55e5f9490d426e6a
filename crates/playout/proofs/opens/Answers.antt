use mathlib.Core.Path.{◌∙◌}
use Rattle.playout.proofs.Channels.{open_of}
use Rattle.playout.proofs.opens.Goals as goal

pub returns : goal.returns
returns c = let g = rw c.table_of.ensures at c.fresh-opened.ensures in open_of _ _ _ c.opened_as.ensures (c.verdict_number.ensures ∙ g.number) g.state
