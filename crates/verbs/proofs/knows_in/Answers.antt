use mathlib.Core.Path.{◌∙◌}
use Rattle.verbs.proofs.Acting.{known_by}
use Rattle.verbs.proofs.knows_in.Goals as goal

pub returns : goal.returns
returns c =
    let a = c.args in
    c.known.ensures ∙ known_by a.state a.verb a.a a.b c.place_in-first.ensures c.second_in-second.ensures
