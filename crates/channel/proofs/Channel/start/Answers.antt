use Rattle.channel.proofs.Channel.start.Goals as goal

pub returns : goal.returns
returns c = c.verb.ensures
