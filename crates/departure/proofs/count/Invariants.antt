-- The loop's invariant: where all of the block so far are equal, it goes on after them.
use Rattle.departure.proofs.Comparing.{Counting}
use Rattle.departure.proofs.count.Given as goal

abbrev pub invariant-loop-i : goal.invariant-loop-i
invariant-loop-i l = Counting l.due l.found l.at l.equal l.lines l.i
