use Prim.Native.Nat.{◌-◌}
use lib.ListN.{replicate}
use Rattle.frame.proofs.Hearings.{Hearing}
use Rattle.frame.proofs.hear_beats.Given as goal

abbrev pub invariant-loop : goal.invariant-loop
invariant-loop l = Hearing l.frame l.wet l.initial.now (replicate l.n l.h) l.initial.out l.initial.r l.now (replicate (l.n - l.counter) l.h) l.out l.r
