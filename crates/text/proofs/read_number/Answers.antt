use mathlib.Core.Path.{sym, ◌∙◌}
use Rattle.std.proofs.lemmas.Result.{err_from_is_err_and}
use Rattle.text.proofs.Reading.{number-bad, number_read, number-refused}
use Rattle.text.proofs.read_number.Goals as goal

pub returns-then-bad_start : goal.returns-then-bad_start
returns-then-bad_start c = number-bad _ _ _ (sym c.if-bad_start.true ∙ c.bad_start.ensures)

pub returns : goal.returns
returns c =
    c.at_least.ensures
    ∙ number_read _ _ _ (sym c.if-bad_start.false ∙ c.bad_start.ensures) _ c.in_ok-n.ensures

pub returns-in_err-n : goal.returns-in_err-n
returns-in_err-n c =
    let p = err_from_is_err_and c.from_residual.result c.from_residual.ensures.1 in
    rw (p.1, p.2)
    (number-refused _ _ _ (sym c.if-bad_start.false ∙ c.bad_start.ensures) _ c.in_err-n.ensures)
