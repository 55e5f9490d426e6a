use mathlib.Core.Path.{sym, ◌∙◌}
use Rattle.server.specs.Server.{absent}
use Rattle.places.proofs.Words.{at_of}
use Rattle.places.proofs.server_at.Goals as goal

pub returns : goal.returns
returns c =
    let a = c.args in
    c.server_of.ensures ∙ sym (at_of a.words.now a.i absent c.requires)
