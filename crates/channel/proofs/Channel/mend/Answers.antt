use Rattle.channel.proofs.Channel.mend.Goals as goal

pub returns : goal.returns
returns c = c.verb.ensures
