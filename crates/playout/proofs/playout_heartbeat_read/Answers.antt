use mathlib.Core.Path.{ap, ◌∙◌}
use Rattle.playout.specs.Writing.{heartbeat_read}
use Rattle.playout.proofs.playout_heartbeat_read.Goals as goal

pub returns : goal.returns
returns c = c.heartbeat_read_of.ensures ∙ ap heartbeat_read c.read.ensures
