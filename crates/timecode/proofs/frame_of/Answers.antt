use native.Mathlib.Omega.{arith}
use Rattle.timecode.specs.Read.{frame_of}
use Rattle.timecode.proofs.frame_of.Goals as goal

pub returns : goal.returns
unfolding frame_of
returns c = omega arith
