use Rattle.channel.proofs.Channel.unready.Goals as goal

pub returns : goal.returns
returns c = c.verb.ensures
