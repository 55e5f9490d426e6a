-- The loop's invariant: n of the bytes before x are fillers.
use mathlib.Core.Path.{◌≡◌}
use Prim.Native.Nat.{◌+◌, ◌≤◌}
use lib.ListN.{drop}
use Rattle.cases.specs.Cases.{fillers}
use Rattle.cases.proofs.fillers.Given as goal

abbrev pub invariant-loop-x : goal.invariant-loop-x
invariant-loop-x l = (l.n ≤ l.x-index) × (fillers l.s ≡ l.n + fillers (drop l.x-index l.s))
