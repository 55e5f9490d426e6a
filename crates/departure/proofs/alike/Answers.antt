use mathlib.Core.Path.{sym}
use Rattle.departure.proofs.Comparing.{alike-so, alike-not}
use Rattle.departure.proofs.alike.Goals as goal

pub returns-then-x-y : goal.returns-then-x-y
returns-then-x-y c = sym (alike-so _ _ c.if-x-y.true)

pub returns : goal.returns
returns c = sym (alike-not _ _ c.if-x-y.false)
