use mathlib.Core.Path.{◌∙◌}
use Rattle.places.specs.Words.{servers_of}
use Rattle.frame.specs.Answers.{state_of}
use Rattle.verbs.proofs.Acting.{known_by}
use Rattle.verbs.proofs.knows.Goals as goal

pub returns : goal.returns
returns c t p l =
    let a = c.args in
    c.known.ensures ∙ known_by (state_of t p (servers_of a.words.now) l) a.verb a.a a.b c.place_in-first.ensures c.second_place-second.ensures
