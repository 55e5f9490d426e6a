use mathlib.Core.Path.{ap, ◌∙◌}
use Rattle.channel.specs.Answers.{state}
use Rattle.playout.proofs.channel_from.Goals as goal

pub returns : goal.returns
returns c = ap state c.of_state.ensures ∙ c.channel_of.ensures
