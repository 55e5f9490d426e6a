use mathlib.Core.Path.{ap₂, ◌∙◌}
use Rattle.heartbeat.specs.Rank.{higher}
use Rattle.server.proofs.Server.from_higher.Goals as goal

pub returns : goal.returns
returns c = c.higher.ensures ∙ ap₂ higher c.sender-sender.ensures c.rank-hearer.ensures
