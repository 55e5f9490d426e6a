use Rattle.places.specs.Words.{servers_of}
use Rattle.frame.proofs.Loud.{Louder}
use Rattle.frame.proofs.loudest.Given as goal

abbrev pub invariant-loop-i : goal.invariant-loop-i
invariant-loop-i l = Louder (servers_of l.words) l.i l.most
