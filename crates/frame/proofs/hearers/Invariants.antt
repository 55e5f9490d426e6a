use Rattle.frame.specs.Steps.{Hearers}
use Rattle.frame.proofs.hearers.Given as goal

abbrev pub invariant-loop-i : goal.invariant-loop-i
invariant-loop-i l = Hearers l.listed l.whole l.i-index l.heard
