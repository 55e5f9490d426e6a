use Rattle.group.proofs.Tables.{Entering}
use Rattle.group.proofs.enter.Given as goal

abbrev pub invariant-loop-place : goal.invariant-loop-place
invariant-loop-place l = Entering l.fn.new l.fn.servers l.place-items l.carried l.place-index
