use mathlib.Core.Path.{◌≡◌}
use lib.ListN.{length}
use Rattle.places.specs.Words.{servers_of}
use Rattle.frame.specs.Answers.{state_of}
use Rattle.bench.proofs.Running.{Running}
use Rattle.bench.proofs.day.Given as goal

abbrev pub invariant-loop-n : goal.invariant-loop-n
invariant-loop-n l = (length l.out ≡ length l.initial.out) × Running (state_of l.first l.period (servers_of l.initial.words) l.initial.whole) l.steps l.initial.out l.out (state_of l.frame l.period (servers_of l.words) l.whole) l.n-index
