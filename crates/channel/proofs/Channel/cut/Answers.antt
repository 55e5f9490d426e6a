use Rattle.channel.proofs.Channel.cut.Goals as goal

pub returns : goal.returns
returns c = c.verb.ensures
