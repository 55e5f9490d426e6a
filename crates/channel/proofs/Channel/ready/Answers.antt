use Rattle.channel.proofs.Channel.ready.Goals as goal

pub returns : goal.returns
returns c = c.verb.ensures
