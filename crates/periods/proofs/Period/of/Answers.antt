use mathlib.Core.Path.{sym}
use borrow.Author.Tests.{lt-leb, le-leb}
use lib.Dec.{leb}
use Rattle.lists.proofs.Cases.{chosen, other, and_true, and_left, and_right}
use Rattle.periods.specs.Period.{take_period}
use Rattle.periods.proofs.Period.of.Goals as goal

pub returns-then-frames-lt-MIN : goal.returns-then-frames-lt-MIN
unfolding take_period
returns-then-frames-lt-MIN c = sym (other _ (and_left _ (lt-leb _ _ c.if-frames-lt-MIN.true)))

pub returns-then-frames-gt-MAX : goal.returns-then-frames-gt-MAX
unfolding take_period
returns-then-frames-gt-MAX c = sym (other _ (and_right (leb 2 c.args.frames) (lt-leb _ _ c.if-frames-gt-MAX.true)))

pub returns : goal.returns
unfolding take_period
returns c = sym (chosen _ (and_true (le-leb _ _ c.if-frames-lt-MIN.false) (le-leb _ _ c.if-frames-gt-MAX.false)))
