use mathlib.Core.Path.{ap, ◌∙◌}
use Rattle.playout.specs.Writing.{timecode_read}
use Rattle.playout.proofs.playout_timecode_read.Goals as goal

pub returns : goal.returns
returns c = c.timecode_read_of.ensures ∙ ap timecode_read c.read.ensures
