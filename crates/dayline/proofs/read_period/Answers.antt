use Rattle.std.proofs.lemmas.Result.{err_from_is_err_and}
use mathlib.Core.Path.{ap, ◌∙◌}
use native.Mathlib.Omega.{arith}
use Rattle.text.proofs.Reading.{number-within}
use Rattle.dayline.specs.Steps.{period_of, read_period}
use Rattle.dayline.proofs.Good.{good, bad}
use Rattle.dayline.proofs.read_period.Goals as goal

pub overflow_cast-result : goal.overflow_cast-result
overflow_cast-result c = omega (arith, (number-within 2 250 _ _ c.in_ok-frames.ensures).1)

pub returns-in_err-frames : goal.returns-in_err-frames
returns-in_err-frames c =
    let p = err_from_is_err_and c.from_residual.result c.from_residual.ensures.1 in
    rw (p.1, p.2) (bad period_of _ (c.in_err-frames.ensures ∙ ap read_period c.first_field.ensures))

pub returns : goal.returns
returns c = good period_of (c.in_ok-frames.ensures ∙ ap read_period c.first_field.ensures)
