use Rattle.text.proofs.Reading.{start-empty, start-one, start-more}
use Rattle.text.proofs.bad_start.Goals as goal

pub returns-then-s-eq0 : goal.returns-then-s-eq0
returns-then-s-eq0 c = start-empty _ c.if-s-eq0.true

pub returns-then-s-eq1 : goal.returns-then-s-eq1
returns-then-s-eq1 c = start-one _ c.if-s-eq1.true

pub returns : goal.returns
returns c = start-more _ c.if-s-eq0.false c.if-s-eq1.false
