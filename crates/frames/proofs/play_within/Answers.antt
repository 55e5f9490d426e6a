use native.Mathlib.Omega.{arith}
use Rattle.frames.proofs.Moving.{moves-none, moves-then}
use Rattle.frames.proofs.Fitting.{going, within-begin, within-turn, within-less, within_end}
use Rattle.frames.proofs.play_within.Goals as goal

pub loop-now-init : goal.loop-now-init
loop-now-init c = (moves-none (omega arith), within-begin)

pub stretch-m-requires : goal.stretch-m-requires
stretch-m-requires c =
    let v = c.loop-now.invariant in
    let g = going c.loop-now.now c.args.target c.loop-now.full c.loop-now-test.true in
    (omega (arith, v.1.place, v.1.fits, v.1.kept), g.0)

pub loop-now-smaller : goal.loop-now-smaller
loop-now-smaller c =
    let l = c.loop-now in
    let g = going l.now c.args.target l.full c.loop-now-test.true in
    within-less l.invariant.1 c.stretch-m.ensures.1 g.0 g.1

pub loop-now-preserved : goal.loop-now-preserved
loop-now-preserved c =
    let v = c.loop-now.invariant in
    let p = c.stretch-m in
    (moves-then v.0 p.ensures.0, within-turn v.1 p.ensures.1 p.auto.out)

pub shape_of-out : goal.shape_of-out
shape_of-out c = c.loop-now.invariant.1.kept

pub returns : goal.returns
returns c = let v = c.loop-now.invariant in (v.0, within_end v.1 c.loop-now-test.false)
