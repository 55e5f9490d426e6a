use borrow.Author.Tests.{lt-ltb, le-ltb}
use Rattle.refusal.specs.declared.Refusal.TheVariants.{Timecode}
use Rattle.text.proofs.Writing.{goes_on_lem, refuses-first}
use Rattle.timecode.proofs.Timecode.write.Goals as goal

pub returns-then-self-lt-DAY : goal.returns-then-self-lt-DAY
returns-then-self-lt-DAY c =
    goes_on_lem
    (lt-ltb _ _ c.if-self-lt-DAY.true)
    (rw c.label-bytes.ensures.label at c.write_bytes.ensures)

pub returns-else-self-lt-DAY : goal.returns-else-self-lt-DAY
returns-else-self-lt-DAY c = refuses-first Timecode (le-ltb _ _ c.if-self-lt-DAY.false)
