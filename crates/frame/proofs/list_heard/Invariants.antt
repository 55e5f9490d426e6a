use Rattle.frame.proofs.Lookup.{Nearing}
use Rattle.frame.proofs.list_heard.Given as goal

abbrev pub invariant-loop-i : goal.invariant-loop-i
invariant-loop-i l = Nearing l.whole l.j l.listed l.near l.m l.i-index
