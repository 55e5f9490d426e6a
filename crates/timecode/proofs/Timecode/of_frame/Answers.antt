use mathlib.Core.Path.{sym}
use borrow.Author.Tests.{lt-ltb, le-ltb}
use Rattle.lists.proofs.Cases.{chosen, other}
use Rattle.timecode.specs.Read.{take_frame}
use Rattle.timecode.proofs.Timecode.of_frame.Goals as goal

pub returns-then-frame-lt-DAY : goal.returns-then-frame-lt-DAY
unfolding take_frame
returns-then-frame-lt-DAY c = sym (chosen _ (lt-ltb _ _ c.if-frame-lt-DAY.true))

pub returns-else-frame-lt-DAY : goal.returns-else-frame-lt-DAY
unfolding take_frame
returns-else-frame-lt-DAY c = sym (other _ (le-ltb _ _ c.if-frame-lt-DAY.false))
