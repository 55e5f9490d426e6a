use mathlib.Core.List.{[]}
use mathlib.Core.Bool.{true}
use mathlib.Core.Path.{refl, sym, ◌∙◌}
use native.Mathlib.Omega.{arith}
use borrow.Author.Tests.{le-leb, lt-leb}
use lib.ListN.{replicate}
use Rattle.daysheet.proofs.Counting.{header-over, count-begins, used-within, count-over, count_turn, count_less, count-ends}
use borrow.Author.Rules.{rules}
use Rattle.daysheet.proofs.fits.Goals as goal

pub returns-in_default : goal.returns-in_default
returns-in_default c = sym (lt-leb _ _ (header-over _ c.begin-begun.ensures c.spend.ensures c.requires c.in_default.is))

pub loop-line-init : goal.loop-line-init
loop-line-init c = (refl, omega (arith, c.requires, c.begin-begun.auto), count-begins _ c.begin-begun.ensures c.spend.ensures c.requires c.in-Some.is (c.begin-begun.ensures.fed (replicate 65 0) (replicate 80 0) (replicate 256 true)))

pub returns-in_default-spend : goal.returns-in_default-spend
returns-in_default-spend c = let v = c.loop-line.invariant in sym (lt-leb _ _ (count-over v.2 c.print-printed.ensures.prints v.1 (sym (c.over.ensures [] [] []) ∙ c.loop-line-test.true) c.spend-in-loop-line.ensures c.in_default-spend.is))

pub overflow_add-i : goal.overflow_add-i
overflow_add-i c = let v = c.loop-line.invariant in omega (arith, c.well_formed.0.0, used-within v.2 c.print-printed.ensures.prints v.1 (sym (c.over.ensures [] [] []) ∙ c.loop-line-test.true))

pub loop-line-smaller : goal.loop-line-smaller
loop-line-smaller c = let v = c.loop-line.invariant in count_less v.2 c.print-printed.ensures.prints v.1 (sym (c.over.ensures [] [] []) ∙ c.loop-line-test.true) c.spend-in-loop-line.ensures c.in-Some-spend.is

pub loop-line-preserved : goal.loop-line-preserved
loop-line-preserved c = let v = c.loop-line.invariant in (search rules, omega (arith, v.1, c.print-printed.auto), count_turn v.2 c.print-printed.ensures.prints v.1 (sym (c.over.ensures [] [] []) ∙ c.loop-line-test.true) c.spend-in-loop-line.ensures c.in-Some-spend.is)

pub returns : goal.returns
returns c = sym (le-leb _ _ (count-ends c.loop-line.invariant.2 (sym (c.over.ensures [] [] []) ∙ c.loop-line-test.false)))
