use Prim.Native.Nat.{◌+◌, ◌≤◌, ◌<◌}
use mathlib.Core.Path.{sym, ◌∙◌}
use native.Mathlib.Omega.{arith}
use borrow.Author.Tests.{leb-true, leb-false}
use lib.ListN.{length}
use Rattle.lines.proofs.Saying.{says, says-not}
use Rattle.lines.proofs.write_one.Goals as goal

pub put_line-requires : goal.put_line-requires
put_line-requires c =
    let a = c.args in
    let h : a.at + c.line_length.result ≤ length a.out.now = leb-true _ _ (sym c.fits.ensures ∙ c.if-fits.true) in
    omega (arith, c.line_length.ensures.0)

pub returns-then-fits : goal.returns-then-fits
returns-then-fits c =
    let a = c.args in
    let h : a.at + c.line_length.result ≤ length a.out.now = leb-true _ _ (sym c.fits.ensures ∙ c.if-fits.true) in
    says (omega (arith, c.line_length.ensures.0)) c.put_line.ensures

pub returns-else-fits : goal.returns-else-fits
returns-else-fits c =
    let a = c.args in
    let h : length a.out.now < a.at + c.line_length.result = leb-false _ _ (sym c.fits.ensures ∙ c.if-fits.false) in
    says-not (omega (arith, c.line_length.ensures.0))
