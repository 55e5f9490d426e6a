use mathlib.Core.Bool.{false}
use Prim.Native.Nat.{◌-◌}
use Rattle.frames.proofs.Playing.{play_begin, play_less, play_turn, play_end}
use Rattle.frames.proofs.count_all.Goals as goal

pub loop-now-init : goal.loop-now-init
loop-now-init c = play_begin

pub count_on-m-requires : goal.count_on-m-requires
count_on-m-requires c = c.loop-now-test.true

pub loop-now-smaller : goal.loop-now-smaller
loop-now-smaller c = play_less c.loop-now-test.true c.count_on-m.ensures

pub loop-now-preserved : goal.loop-now-preserved
loop-now-preserved c =
    play_turn c.loop-now.invariant c.count_on-m.auto.out c.count_on-m.ensures

pub shape_of-out : goal.shape_of-out
shape_of-out c = c.loop-now.invariant.out.kept

pub returns : goal.returns
returns c = play_end c.loop-now.invariant c.loop-now-test.false
