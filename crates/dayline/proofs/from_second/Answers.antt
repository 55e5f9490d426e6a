use Rattle.std.proofs.lemmas.Result.{err_from_is_err_and}
use mathlib.Core.Path.{ap, ◌∙◌}
use mathlib.Core.List.{[], ◌∷◌}
use native.Mathlib.Omega.{arith}
use Rattle.text.proofs.Reading.{number-within}
use Rattle.heartbeat.specs.Rank.{read_identity}
use Rattle.heartbeat.proofs.Fields.{took-last, stops-last}
use Rattle.dayline.specs.Steps.{entry_of}
use Rattle.dayline.proofs.Good.{good, bad}
use Rattle.dayline.proofs.from_second.Goals as goal

pub overflow_cast-result : goal.overflow_cast-result
overflow_cast-result c = omega (arith, (number-within 1 65535 _ _ c.in_ok-second.ensures).1)

pub returns-in_err-second : goal.returns-in_err-second
returns-in_err-second c =
    let a = c.args in
    let p = err_from_is_err_and c.from_residual.result c.from_residual.ensures.1 in
    rw (p.1, p.2) (bad (entry_of a.verb) _ (stops-last (a.time ∷ a.first ∷ []) _ (c.in_err-second.ensures ∙ ap read_identity c.first_field.ensures)))

pub returns : goal.returns
returns c =
    let a = c.args in
    good (entry_of a.verb) (took-last (a.time ∷ a.first ∷ []) (c.in_ok-second.ensures ∙ ap read_identity c.first_field.ensures))
