use Rattle.playout.proofs.unopened.Goals as goal

pub returns : goal.returns
returns c = rw c.no_channel-channel.ensures
