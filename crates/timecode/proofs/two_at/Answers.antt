use native.Mathlib.Numerals.{add-one}
use Rattle.timecode.proofs.two_at.Goals as goal

pub returns : goal.returns
returns c = rw add-one
