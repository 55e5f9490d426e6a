use Rattle.channel.proofs.Channel.crash.Goals as goal

pub returns : goal.returns
returns c = c.verb.ensures
