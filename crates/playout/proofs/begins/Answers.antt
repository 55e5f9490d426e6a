use Rattle.playout.proofs.Fronts.{begin-of}
use Rattle.playout.proofs.begins.Goals as goal

pub returns : goal.returns
returns c = begin-of _ _ c.front_of.ensures c.begun-next.ensures c.verdict_number.ensures c.plain_front.ensures
