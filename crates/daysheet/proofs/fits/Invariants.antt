use mathlib.Core.Path.{◌≡◌}
use Prim.Native.Nat.{◌-◌, ◌≤◌}
use lib.ListN.{length}
use Rattle.feeding.specs.Bound.{step_bytes}
use Rattle.feed.specs.Answers.{fed_of}
use Rattle.daysheet.proofs.Counting.{Counting, to_count}
use Rattle.daysheet.proofs.fits.Given as goal

abbrev pub invariant-loop-line : goal.invariant-loop-line
invariant-loop-line l = (length l.scratch ≡ length l.initial.scratch) × (step_bytes ≤ length l.scratch) × Counting l.day l.room (fed_of l.feed l.line l.words l.whole) l.left l.i

abbrev pub decreases-loop-line : goal.decreases-loop-line
decreases-loop-line l = to_count (fed_of l.feed l.line l.words l.whole) (length l.day - l.i) l.left
