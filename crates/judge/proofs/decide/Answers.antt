use mathlib.Core.Path.{sym}
use Rattle.judging.proofs.Standing.{decides_at, decides_same, decides_nothing}
use Rattle.judge.proofs.decide.Goals as goal

pub returns-then-departs : goal.returns-then-departs
returns-then-departs c = sym (decides_at _ _ c.if-departs.true)

pub returns-then-ended : goal.returns-then-ended
returns-then-ended c = sym (decides_same _ c.if-departs.false c.if-ended.true)

pub returns : goal.returns
returns c = sym (decides_nothing _ c.if-departs.false c.if-ended.false)
