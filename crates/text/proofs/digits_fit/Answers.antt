use mathlib.Core.Path.{refl, sym, ap, ◌∙◌}
use Prim.Native.Nat.{ℕ, ◌+◌, ◌≤◌}
use native.Mathlib.Omega.{arith}
use borrow.Author.Tests.{leb-true, le-leb}
use lib.ListN.{length}
use Rattle.text.specs.Digits.{digits}
use Rattle.text.specs.Write.{room_for}
use Rattle.text.proofs.Digits.{width_few}
use Rattle.text.proofs.digits_fit.Goals as goal

pub returns-then-fits : goal.returns-then-fits
returns-then-fits c =
    let a = c.args in
    let most : a.at + 20 ≤ a.room = leb-true _ _ (sym c.fits.ensures ∙ c.if-fits.true) in
    let within : a.at + length (digits a.n) ≤ a.room = omega (arith, width_few a.n refl (omega arith)) in
    sym (le-leb _ _ within)

pub returns-else-fits : goal.returns-else-fits
returns-else-fits c = let a = c.args in c.fits-else-fits.ensures ∙ ap (λ (w : ℕ). room_for a.room a.at w) c.width.ensures
