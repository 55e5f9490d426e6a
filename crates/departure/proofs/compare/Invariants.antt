-- The loop's invariant: equal before i, which end so many lines.
use Rattle.departure.specs.Steps.{Comparing}
use Rattle.departure.proofs.compare.Given as goal

abbrev pub invariant-loop-i : goal.invariant-loop-i
invariant-loop-i l = Comparing l.due l.found l.lines l.i
