use Rattle.channel.proofs.Channel.pass.Goals as goal

pub returns : goal.returns
returns c = c.verb.ensures
