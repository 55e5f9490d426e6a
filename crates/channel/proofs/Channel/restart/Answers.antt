use Rattle.channel.proofs.Channel.restart.Goals as goal

pub returns : goal.returns
returns c = c.verb.ensures
