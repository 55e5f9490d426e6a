use Rattle.std.proofs.lemmas.Result.{err_from_is_err_and}
use mathlib.Core.Path.{sym, ap, ◌∙◌}
use Rattle.roles.specs.Words.{said}
use Rattle.verbs.proofs.Acting.{cut_makes, mend_makes, others_make, others_number, swapped, does-not, does_so}
use Rattle.verbs.proofs.attempt.Goals as goal

pub returns-in_ok-allow_link-in-Cut : goal.returns-in_ok-allow_link-in-Cut
returns-in_ok-allow_link-in-Cut c = rw c.in-Cut.is (does_so (sym c.in_ok-allow_link-in-Cut.ensures) cut_makes)

pub returns-in_err-allow_link-in-Mend : goal.returns-in_err-allow_link-in-Mend
returns-in_err-allow_link-in-Mend c =
    let r = c.from_residual-in_err-allow_link-in-Mend in
    let p = err_from_is_err_and r.result r.ensures.1 in
    rw (p.1, p.2, c.in-Mend.is) (does-not (sym (swapped c.args.link 0 15) ∙ sym c.in_err-allow_link-in-Mend.ensures))

pub returns-in_ok-allow_link-in-Mend : goal.returns-in_ok-allow_link-in-Mend
returns-in_ok-allow_link-in-Mend c = rw c.in-Mend.is (does_so (sym (swapped c.args.link 0 15) ∙ sym c.in_ok-allow_link-in-Mend.ensures) mend_makes)
