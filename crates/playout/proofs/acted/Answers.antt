use Rattle.playout.proofs.Fronts.{acts_well, acts-ill}
use Rattle.playout.proofs.acted.Goals as goal

pub returns-then-is_front-is_verb : goal.returns-then-is_front-is_verb
returns-then-is_front-is_verb c = acts_well _ _ _ _ (rw (c.is_verb.ensures, c.is_front.ensures) at c.if-is_front-is_verb.true) c.acts.ensures

pub returns-else-is_front-is_verb : goal.returns-else-is_front-is_verb
returns-else-is_front-is_verb c = acts-ill _ _ _ (rw (c.is_verb.ensures, c.is_front.ensures) at c.if-is_front-is_verb.false)
