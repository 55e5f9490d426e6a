use Prim.Native.Nat.{◌+◌, ◌<◌, ◌≤◌}
use mathlib.Core.Path.{sym, ◌∙◌}
use native.Mathlib.Omega.{arith}
use borrow.Author.Tests.{leb-true, leb-false}
use lib.ListN.{length}
use Rattle.text.proofs.Writing.{whole, writes_short}
use Rattle.heartbeat.proofs.Heartbeat.write_line.Goals as goal

pub returns-then-fits : goal.returns-then-fits
returns-then-fits c =
    let n = c.line_length-n in
    let a = c.args in
    let room : a.at + n.result ≤ length a.out.now = leb-true _ _ (sym c.fits.ensures ∙ c.if-fits.true) in
    whole (omega (arith, n.ensures)) c.put_line.ensures

pub returns-else-fits : goal.returns-else-fits
returns-else-fits c =
    let n = c.line_length-n in
    let a = c.args in
    let over : length a.out.now < a.at + n.result = leb-false _ _ (sym c.fits.ensures ∙ c.if-fits.false) in
    writes_short (omega (arith, n.ensures))
