use borrow.Author.Tests.{le-leb, lt-leb}
use Rattle.playout.proofs.Writings.{written-fits, written-not}
use Rattle.playout.proofs.written_to.Goals as goal

pub returns-then-at-room : goal.returns-then-at-room
returns-then-at-room c = let a = c.args in written-fits a.at a.room (le-leb _ _ c.if-at-room.true)

pub returns-else-at-room : goal.returns-else-at-room
returns-else-at-room c = let a = c.args in written-not a.at a.room (lt-leb _ _ c.if-at-room.false)
