use Prim.Native.Nat.{◌+◌, ◌<◌, ◌≤◌}
use mathlib.Core.Path.{sym, ◌∙◌}
use native.Mathlib.Omega.{arith}
use borrow.Author.Tests.{leb-true, leb-false}
use lib.ListN.{length}
use Rattle.text.proofs.Writing.{whole, writes_short}
use Rattle.lines.specs.Lines.{refused_word}
use Rattle.lines.proofs.Pieces.{line-long}
use Rattle.lines.proofs.write_refused.Goals as goal

pub returns-then-fits : goal.returns-then-fits
returns-then-fits c =
    let a = c.args in
    let n = c.refused_length in
    let room : 0 + n.result ≤ length a.out.now = leb-true _ _ (sym c.fits.ensures ∙ c.if-fits.true) in
    rw (sym c.number-n.ensures) (whole (omega (arith, n.ensures, line-long a.frame a.identity (refused_word c.number-n.result))) c.put_refused.ensures)

pub returns-else-fits : goal.returns-else-fits
returns-else-fits c =
    let a = c.args in
    let n = c.refused_length in
    let over : length a.out.now < 0 + n.result = leb-false _ _ (sym c.fits.ensures ∙ c.if-fits.false) in
    rw (sym c.number-n.ensures) (writes_short (omega (arith, n.ensures, line-long a.frame a.identity (refused_word c.number-n.result))))
