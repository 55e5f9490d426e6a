use borrow.Author.Rules.{rules}
use Rattle.timecode.proofs.Digits.{digits, digits-first}
use Rattle.timecode.proofs.two_below.Goals as goal

pub two_at-requires : goal.two_at-requires
two_at-requires c =
    digits _ _ (search rules) (rw (← c.is_digit.ensures, ← c.is_digit-2.ensures) c.if-is_digit.true)

pub returns-then-is_digit : goal.returns-then-is_digit
returns-then-is_digit c =
    rw (digits-first, ← c.is_digit.ensures, ← c.is_digit-2.ensures, c.if-is_digit.true, c.two_at.ensures)

pub returns-else-is_digit : goal.returns-else-is_digit
returns-else-is_digit c =
    rw (digits-first, ← c.is_digit.ensures, ← c.is_digit-2.ensures, c.if-is_digit.false)
