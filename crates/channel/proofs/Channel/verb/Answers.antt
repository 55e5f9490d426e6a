use Rattle.channel.proofs.Answering.{answers}
use Rattle.channel.proofs.Channel.verb.Goals as goal

pub returns : goal.returns
returns c = answers _ c.next-next.ensures
