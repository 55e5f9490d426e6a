use native.Mathlib.Omega.{arith}
use Rattle.text.proofs.Reading.{digit_low, digit-high, digit_large, digit-is}
use Rattle.text.proofs.read_digit.Goals as goal

pub returns-then-x-lt48 : goal.returns-then-x-lt48
returns-then-x-lt48 c = digit_low _ _ _ c.if-x-lt48.true

pub returns-then-x-gt57 : goal.returns-then-x-gt57
returns-then-x-gt57 c = digit-high _ _ _ c.if-x-gt57.true

pub returns-then-n-greatest : goal.returns-then-n-greatest
returns-then-n-greatest c = digit_large _ _ _ (omega arith)

pub returns-then-digit-greatest : goal.returns-then-digit-greatest
returns-then-digit-greatest c = digit_large _ _ _ (omega arith)

pub returns : goal.returns
returns c = digit-is _ _ _ (omega arith) (omega arith) (omega arith)
