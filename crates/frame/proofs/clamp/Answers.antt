use mathlib.Core.Path.{sym}
use borrow.Author.Tests.{le-leb, lt-leb}
use Rattle.lists.proofs.Cases.{chosen, other}
use Rattle.frame.specs.Steps.{clamped}
use Rattle.frame.proofs.clamp.Goals as goal

pub returns-then-at-room : goal.returns-then-at-room
unfolding clamped
returns-then-at-room c = sym (chosen _ (le-leb _ _ c.if-at-room.true))

pub returns-else-at-room : goal.returns-else-at-room
unfolding clamped
returns-else-at-room c = sym (other _ (lt-leb _ _ c.if-at-room.false))
