use Prim.Native.Nat.{◌-◌, ◌≤◌}
use lib.ListN.{length}
use Rattle.periods.specs.Period.{beat_limit}
use Rattle.frames.specs.Steps.{Beats}
use Rattle.frames.proofs.beat_on.Given as goal

abbrev pub invariant-loop-next : goal.invariant-loop-next
invariant-loop-next l = (l.r ≤ length l.out) × Beats l.first (beat_limit l.period) l.target l.identity l.initial.out l.at (record { next = l.next; at = l.r }) l.out

abbrev pub decreases-loop-next : goal.decreases-loop-next
decreases-loop-next l = length l.out - l.r
