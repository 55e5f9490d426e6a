use Rattle.playout.proofs.Fronts.{act-of}
use Rattle.playout.proofs.acts.Goals as goal

pub returns : goal.returns
returns c = act-of _ _ _ _ c.front_of.ensures c.verb_of.ensures c.acted-next.ensures c.acted_as.ensures c.verdict_number.ensures c.event_number.ensures c.role_number.ensures c.plain_front.ensures
