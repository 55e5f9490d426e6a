use Rattle.places.proofs.Words.{Stored}
use Rattle.places.proofs.words_of.Given as goal

abbrev pub invariant-loop-i : goal.invariant-loop-i
invariant-loop-i l = Stored l.s-items l.words l.i
