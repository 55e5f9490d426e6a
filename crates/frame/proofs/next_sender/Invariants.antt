use Rattle.places.proofs.Order.{IsBest}
use Rattle.frame.proofs.Lookup.{Looking}
use Rattle.frame.proofs.next_sender.Given as goal

-- `best` is the best of the places near that were looked at
abbrev pub invariant-loop-i : goal.invariant-loop-i
invariant-loop-i l = Looking l.ranks l.last l.near l.m l.i-index l.best.place × IsBest l.ranks l.best
