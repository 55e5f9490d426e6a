use mathlib.Core.Path.{refl}
use mathlib.Core.Logic.{inl, inr}
use native.Mathlib.Omega.{arith}
use Rattle.frames.proofs.skipped.Goals as goal

pub returns-then-first-target : goal.returns-then-first-target
returns-then-first-target c = record { from = omega arith; to = omega arith; early = inr c.if-first-target.true }

pub returns-then-first-frame : goal.returns-then-first-frame
returns-then-first-frame c = record { from = omega arith; to = omega arith; early = inl refl }

pub returns-else-first-frame : goal.returns-else-first-frame
returns-else-first-frame c = record { from = omega arith; to = omega arith; early = inr (omega arith) }
