-- The loop's invariant: the bytes before i are taken, and the line under way is not whole.
use mathlib.Core.Bool.{Bool, false}
use mathlib.Core.List.{List}
use Prim.Native.Nat.{ℕ, ◌+◌}
use Rattle.feeding.proofs.Taking.{Taking}
use Rattle.feed.specs.Answers.{fed_of}
use Rattle.feed.proofs.Filling.{Filling}
use Rattle.feed.proofs.Feed.fill.Given as goal

abbrev pub invariant-loop-i : goal.invariant-loop-i
invariant-loop-i l =
    Filling l.fn.bytes l.self.length l.piece l.line (l.self.length + l.i) l.i
    × ((w : List ℕ) (k : List Bool) → Taking (fed_of l.self l.fn.bytes w k) l.piece l.line (l.self.length + l.i) l.i false)
