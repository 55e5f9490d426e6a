use Rattle.std.proofs.lemmas.Result.{err_from_is_err_and}
use mathlib.Core.Path.{ap, ◌∙◌}
use mathlib.Core.List.{[], ◌∷◌}
use native.Mathlib.Omega.{arith}
use Rattle.text.proofs.Reading.{number-within}
use Rattle.heartbeat.specs.Rank.{read_identity}
use Rattle.heartbeat.proofs.Fields.{next_field, took, stops}
use Rattle.dayline.specs.Steps.{entry_of, read_second}
use Rattle.dayline.proofs.Good.{alike, bad}
use Rattle.dayline.proofs.from_first.Goals as goal

pub field_to-requires : goal.field_to-requires
field_to-requires c = c.find-tab.ensures

pub overflow_cast-first : goal.overflow_cast-first
overflow_cast-first c = omega (arith, (number-within 1 65535 _ _ c.in_ok-first.ensures).1)

pub returns-in_err-first : goal.returns-in_err-first
returns-in_err-first c =
    let a = c.args in
    let p = err_from_is_err_and c.from_residual.result c.from_residual.ensures.1 in
    rw (p.1, p.2) (bad (entry_of a.verb) _ (stops (a.time ∷ []) _ _ (c.in_err-first.ensures ∙ ap read_identity c.field_to.ensures)))

pub returns : goal.returns
returns c =
    let a = c.args in
    c.after_first.ensures
    ∙ alike (entry_of a.verb)
    (took (a.time ∷ [])
    (c.in_ok-first.ensures ∙ ap read_identity c.field_to.ensures)
    (ap (read_second a.verb) (next_field a.s.now 0 c.field_from.ensures)))
