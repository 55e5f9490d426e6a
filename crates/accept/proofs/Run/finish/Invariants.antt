use Rattle.accept.specs.Steps.{Holds}
use Rattle.accept.proofs.Run.finish.Given as goal

abbrev pub invariant-loop : goal.invariant-loop
invariant-loop g l = Holds l.day l.now.day × Holds l.sheet l.now.sheet
