use mathlib.Core.Path.{refl}
use Rattle.lines.specs.Lines.{lines_of}
use Rattle.lines.proofs.Saying.{says_nothing}
use Rattle.lines.proofs.write.Goals as goal

pub returns-in-Nothing : goal.returns-in-Nothing
unfolding lines_of
returns-in-Nothing c = let a = c.args in rw c.in-Nothing.is (says_nothing a.out.now a.at c.place.ensures refl)

pub returns-in-One : goal.returns-in-One
unfolding lines_of
returns-in-One c = rw c.in-One.is c.write_one.ensures

pub returns-in-Two : goal.returns-in-Two
unfolding lines_of
returns-in-Two c = rw c.in-Two.is c.write_two.ensures
