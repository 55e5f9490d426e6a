use Prim.Native.Nat.{◌+◌, ◌*◌}
use mathlib.Core.Path.{◌≡◌, subst}
use native.Mathlib.Omega.{arith}
use Rattle.departure.specs.Steps.{Comparing}
use Rattle.departure.proofs.skip.Goals as goal

pub loop-block-preserved : goal.loop-block-preserved
loop-block-preserved c =
    let e : 128 * c.loop-block.block + 128 ≡ 128 * (c.loop-block.block + 1) = omega arith in
    subst (Comparing c.args.due.now c.args.found.now (c.loop-block.lines + c.count-counted.result.lines)) e
    (c.count-counted.ensures.all _ c.loop-block.invariant (omega arith))
