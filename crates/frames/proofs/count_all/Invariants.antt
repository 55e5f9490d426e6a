use mathlib.Core.Bool.{false}
use Prim.Native.Nat.{◌-◌}
use Rattle.places.specs.Words.{servers_of}
use Rattle.frame.specs.Answers.{state_of}
use Rattle.frames.proofs.Playing.{Playing}
use Rattle.frames.proofs.count_all.Given as goal

abbrev pub invariant-loop-now : goal.invariant-loop-now
invariant-loop-now l = Playing false (state_of l.frame l.period (servers_of l.initial.next) l.whole) l.target l.initial.out 0 l.out (servers_of l.next) l.now l.at

abbrev pub decreases-loop-now : goal.decreases-loop-now
decreases-loop-now l = l.target - l.now
