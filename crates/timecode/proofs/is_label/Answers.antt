use borrow.Author.Tests.{eq-eqb, ne_eqb}
use Rattle.timecode.specs.Read.{is_label}
use Rattle.timecode.proofs.is_label.Goals as goal

pub returns-then-s-eq11 : goal.returns-then-s-eq11
unfolding is_label
returns-then-s-eq11 c = rw (c.in_range.ensures, c.has_colons.ensures, eq-eqb _ _ c.if-s-eq11.true)

pub returns-else-s-eq11 : goal.returns-else-s-eq11
unfolding is_label
returns-else-s-eq11 c = rw (ne_eqb _ _ c.if-s-eq11.false)
