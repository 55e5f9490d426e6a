use Prim.Native.Nat.{◌+◌, ◌≤◌, ◌<◌}
use mathlib.Core.Path.{sym, ◌∙◌}
use native.Mathlib.Omega.{arith}
use borrow.Author.Tests.{leb-true, leb-false}
use lib.ListN.{length, length-append}
use Rattle.roles.specs.Words.{word_bytes}
use Rattle.lines.specs.Lines.{line}
use Rattle.lines.proofs.Saying.{says, says-not}
use Rattle.lines.proofs.write_two.Goals as goal

pub overflow_add-n : goal.overflow_add-n
overflow_add-n c = omega (arith, c.line_length-2.ensures.1, c.line_length.ensures.1)

pub put_two-requires : goal.put_two-requires
put_two-requires c =
    let a = c.args in
    let h : a.at + (c.line_length.result + c.line_length-2.result) ≤ length a.out.now = leb-true _ _ (sym c.fits.ensures ∙ c.if-fits.true) in
    omega (arith, c.line_length.ensures.0, c.line_length-2.ensures.0, length-append (line a.frame a.identity (word_bytes a.v)) (line a.frame a.identity (word_bytes a.w)))

pub returns-then-fits : goal.returns-then-fits
returns-then-fits c =
    let a = c.args in
    let h : a.at + (c.line_length.result + c.line_length-2.result) ≤ length a.out.now = leb-true _ _ (sym c.fits.ensures ∙ c.if-fits.true) in
    says (omega (arith, c.line_length.ensures.0, c.line_length-2.ensures.0, length-append (line a.frame a.identity (word_bytes a.v)) (line a.frame a.identity (word_bytes a.w)))) c.put_two.ensures

pub returns-else-fits : goal.returns-else-fits
returns-else-fits c =
    let a = c.args in
    let h : length a.out.now < a.at + (c.line_length.result + c.line_length-2.result) = leb-false _ _ (sym c.fits.ensures ∙ c.if-fits.false) in
    says-not (omega (arith, c.line_length.ensures.0, c.line_length-2.ensures.0, length-append (line a.frame a.identity (word_bytes a.v)) (line a.frame a.identity (word_bytes a.w))))
