use mathlib.Core.Path.{sym, ◌∙◌}
use Prim.Native.Nat.{◌<◌}
use Rattle.day.specs.Sheet.{sheet}
use native.Mathlib.Omega.{arith}
use borrow.Author.Tests.{leb-true, leb-false}
use lib.ListN.{length, length-replicate}
use Rattle.text.proofs.Writing.{writes_short}
use borrow.Author.Rules.{rules}
use Rattle.daysheet.proofs.sheet.Goals as goal

pub fits-requires : goal.fits-requires
fits-requires c = search (rules, length-replicate)

pub write-requires : goal.write-requires
write-requires c = leb-true _ _ (sym c.fits.ensures ∙ c.if-fits.true)

pub returns-then-fits : goal.returns-then-fits
returns-then-fits c = c.write.ensures

pub returns-else-fits : goal.returns-else-fits
returns-else-fits c = let a = c.args in let h : length a.out.now < length (sheet a.day.now) = leb-false _ _ (sym c.fits.ensures ∙ c.if-fits.false) in writes_short (omega arith)
