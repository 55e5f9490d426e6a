use mathlib.Core.Path.{refl}
use mathlib.Core.Logic.{inr}
use native.Mathlib.Omega.{arith}
use Rattle.lists.proofs.Cases.{clash}
use Rattle.places.specs.Words.{servers_of}
use Rattle.places.proofs.Words.{long_of}
use Rattle.frame.proofs.Loud.{loud_quiet}
use Rattle.frames.proofs.Playing.{jump_quiet}
use Rattle.frames.proofs.nothing_until.Goals as goal

pub returns-then-frame-target : goal.returns-then-frame-target
returns-then-frame-target c e =
    let a = c.args in
    let q = c.all_quiet.ensures e in
    (c.if-frame-target.true, jump_quiet a.period (servers_of a.words.now) (loud_quiet q.0 refl) (long_of a.words.now) q.1 (record { from = omega arith; to = omega arith; early = inr (omega arith) }))

pub returns-else-frame-target : goal.returns-else-frame-target
returns-else-frame-target c e = absurd (clash e refl)
