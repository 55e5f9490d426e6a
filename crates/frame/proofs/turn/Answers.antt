use Rattle.frame.specs.Steps.{inbox_by}
use Rattle.frame.proofs.Hearings.{turning}
use Rattle.frame.proofs.turn.Goals as goal

pub returns : goal.returns
returns c =
    let a = c.args in
    turning (inbox_by (record { places = a.listed.now; ranks = a.ranks.now; sendings = a.sendings.now; count = a.count }) a.whole.now a.j) a.frame a.period a.s c.cleared.ensures c.hear_several-heard.auto.out c.hear_several-heard.ensures c.tick.ensures
