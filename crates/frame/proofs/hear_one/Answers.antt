use Rattle.frame.proofs.Hearings.{one}
use Rattle.frame.proofs.hear_one.Goals as goal

pub returns : goal.returns
returns c = one c.hear-heard.ensures c.say_event-after.ensures
