use Prim.Native.Nat.{◌+◌, ◌≤◌}
use mathlib.Core.Path.{sym, ◌∙◌}
use native.Mathlib.Omega.{arith}
use borrow.Author.Tests.{leb-true}
use Rattle.lists.proofs.Cases.{chosen, other}
use Rattle.lines.proofs.place.Goals as goal

pub overflow_add-result : goal.overflow_add-result
overflow_add-result c =
    let a = c.args in
    let h : a.at + a.n ≤ a.end = leb-true _ _ (sym c.fits.ensures ∙ c.if-fits.true) in
    omega (arith, c.requires)

pub overflow_add-result-else-fits : goal.overflow_add-result-else-fits
overflow_add-result-else-fits c = omega (arith, c.requires)

pub returns-then-fits : goal.returns-then-fits
returns-then-fits c = sym (chosen _ (sym c.fits.ensures ∙ c.if-fits.true))

pub returns-else-fits : goal.returns-else-fits
returns-else-fits c = sym (other _ (sym c.fits.ensures ∙ c.if-fits.false))
