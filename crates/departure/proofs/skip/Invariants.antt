-- The loop's invariant: all before the block are equal.
use Prim.Native.Nat.{◌*◌}
use Rattle.departure.specs.Steps.{Comparing}
use Rattle.departure.proofs.skip.Given as goal

abbrev pub invariant-loop-block : goal.invariant-loop-block
invariant-loop-block l = Comparing l.due l.found l.lines (128 * l.block)
