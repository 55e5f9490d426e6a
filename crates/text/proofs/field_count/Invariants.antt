-- The loop's invariant: n parts begin in the bytes before x.
use mathlib.Core.Path.{◌≡◌}
use Prim.Native.Nat.{◌+◌, ◌≤◌}
use lib.ListN.{length, drop}
use Rattle.lists.specs.Lists.{split_on}
use Rattle.text.proofs.field_count.Given as goal

abbrev pub invariant-loop-x : goal.invariant-loop-x
invariant-loop-x l = (l.n ≤ l.x-index + 1) × (length (split_on 9 l.s) + 1 ≡ l.n + length (split_on 9 (drop l.x-index l.s)))
