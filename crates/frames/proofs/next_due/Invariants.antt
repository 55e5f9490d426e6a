use Rattle.places.specs.Words.{servers_of}
use Rattle.frame.proofs.Quiet.{Resting}
use Rattle.frames.proofs.next_due.Given as goal

abbrev pub invariant-loop-i : goal.invariant-loop-i
invariant-loop-i l = Resting l.frame l.period (servers_of l.words) l.i l.first
