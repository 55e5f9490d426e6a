use mathlib.Core.Path.{sym, ◌∙◌}
use Rattle.group.specs.Advance.{step_outcome}
use Rattle.playout.proofs.Channels.{gives_of, answers_well, answers-ill}
use Rattle.playout.proofs.playout_channel_advance.Goals as goal

pub returns-then-is_channel : goal.returns-then-is_channel
returns-then-is_channel c = let e = sym c.is_channel.ensures ∙ c.if-is_channel.true in rw c.answered.ensures (answers_well _ _ _ _ _ _ _ _ e e (gives_of c.args.channel step_outcome c.channel_from.ensures c.advance.ensures.gives))

pub returns-else-is_channel : goal.returns-else-is_channel
returns-else-is_channel c = rw c.unanswered.ensures (answers-ill _ _ _ _ (sym c.is_channel.ensures ∙ c.if-is_channel.false))
