use Rattle.channel.specs.Answers.{state}
use mathlib.Core.Path.{refl, sym}
use native.Mathlib.Omega.{arith}
use lib.Seq.{length-take-le, length_front}
use Rattle.calls.proofs.Calling.{lesser-fits, one-call}
use Rattle.calls.proofs.lend.Goals as goal

pub slice_bounds-call-end : goal.slice_bounds-call-end
slice_bounds-call-end c = let a = c.args in omega (arith, c.lesser-end.ensures, lesser-fits a.m a.out.now)

pub slice_bounds-call-end-2 : goal.slice_bounds-call-end-2
slice_bounds-call-end-2 c = let a = c.args in sym (length-take-le _ a.out.now (omega (arith, c.lesser-end.ensures, lesser-fits a.m a.out.now)))

pub shape_of-out : goal.shape_of-out
shape_of-out c = let a = c.args in length_front a.out.now c.call.new.out c.lesser-end.result c.call.auto.out

pub returns : goal.returns
returns c =
    let a = c.args in
    one-call (state a.channel) a.n a.m a.out.now c.lesser-end.ensures c.call.ensures.gives refl
