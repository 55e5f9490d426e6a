use Rattle.cases.proofs.Showing.{Showing}
use Rattle.cases.proofs.roles_of.Given as goal

abbrev pub invariant-loop-s : goal.invariant-loop-s
invariant-loop-s l = Showing l.fn.servers l.digits l.n l.s-index
