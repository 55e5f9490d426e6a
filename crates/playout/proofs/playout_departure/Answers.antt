use mathlib.Core.Path.{ap, ◌∙◌}
use Rattle.departure.specs.Departure.{line_number}
use Rattle.playout.proofs.playout_departure.Goals as goal

pub returns : goal.returns
returns c = c.number.ensures ∙ ap line_number c.departure-departure.ensures
