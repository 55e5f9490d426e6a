use native.Mathlib.Omega.{arith}
use Rattle.places.specs.Words.{servers_of}
use Rattle.frame.specs.Answers.{state_of}
use Rattle.frames.proofs.Playing.{next-counted, next-none}
use Rattle.frames.proofs.count_next.Goals as goal

pub returns-then-frame-target : goal.returns-then-frame-target
returns-then-frame-target c =
    let a = c.args in
    next-counted (state_of a.frame a.period (servers_of a.words.now) a.whole.now) a.target c.if-frame-target.true (omega (arith, c.if-frame-target.true)) c.count-after.ensures

pub returns-else-frame-target : goal.returns-else-frame-target
returns-else-frame-target c = let a = c.args in next-none (state_of a.frame a.period (servers_of a.words.now) a.whole.now) a.target c.if-frame-target.false
