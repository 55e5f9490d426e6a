use mathlib.Core.Path.{ap₂, ◌∙◌}
use Rattle.heartbeat.specs.Rank.{higher}
use Rattle.server.proofs.Server.from_lower.Goals as goal

pub returns : goal.returns
returns c = c.higher.ensures ∙ ap₂ higher c.rank-hearer.ensures c.sender-sender.ensures
