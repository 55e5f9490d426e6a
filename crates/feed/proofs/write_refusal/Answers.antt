use Prim.Native.Nat.{◌+◌, ◌<◌, ◌≤◌}
use mathlib.Core.Path.{sym, ◌∙◌}
use native.Mathlib.Omega.{arith}
use borrow.Author.Tests.{leb-true, leb-false}
use lib.ListN.{length}
use Rattle.text.proofs.Writing.{whole, writes_short}
use Rattle.feed.proofs.write_refusal.Goals as goal

pub returns-then-fits : goal.returns-then-fits
returns-then-fits c =
    let a = c.args in
    let n = c.refusal_length in
    let room : 0 + n.result ≤ length a.out.now = leb-true _ _ (sym c.fits.ensures ∙ c.if-fits.true) in
    rw (sym c.number-n.ensures) (whole (omega (arith, n.ensures)) c.put_refusal.ensures)

pub returns-else-fits : goal.returns-else-fits
returns-else-fits c =
    let a = c.args in
    let n = c.refusal_length in
    let over : length a.out.now < 0 + n.result = leb-false _ _ (sym c.fits.ensures ∙ c.if-fits.false) in
    rw (sym c.number-n.ensures) (writes_short (omega (arith, n.ensures)))
