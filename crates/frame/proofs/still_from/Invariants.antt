use Rattle.places.specs.Words.{servers_of}
use Rattle.frame.specs.Steps.{Still}
use Rattle.frame.proofs.still_from.Given as goal

abbrev pub invariant-loop-i : goal.invariant-loop-i
invariant-loop-i l = Still l.i (servers_of l.words)
