use Prim.Native.Nat.{◌+◌, ◌-◌}
use Rattle.lists.specs.Choice.{choose}
use Rattle.places.specs.Words.{servers_of}
use Rattle.frame.specs.Answers.{state_of}
use Rattle.frames.specs.Steps.{Moves}
use Rattle.frames.proofs.Fitting.{Within}
use Rattle.frames.proofs.play_within.Given as goal

abbrev pub invariant-loop-now : goal.invariant-loop-now
invariant-loop-now l = Moves l.initial.words l.words l.frame l.now × Within (state_of l.frame l.period (servers_of l.initial.words) l.whole) l.target l.initial.out l.out (servers_of l.words) l.now l.at l.full

abbrev pub decreases-loop-now : goal.decreases-loop-now
decreases-loop-now l = (l.target - l.now) + choose l.full 0 1
