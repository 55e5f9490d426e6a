use native.Mathlib.Omega.{arith}
use Rattle.places.specs.Words.{servers_of}
use Rattle.frame.specs.Answers.{state_of}
use Rattle.frames.proofs.Moving.{moves-one, moves_not}
use Rattle.frames.proofs.Fitting.{fares_one, fares_not}
use Rattle.frames.proofs.play_fitting.Goals as goal

pub overflow_add-result : goal.overflow_add-result
overflow_add-result c = omega (arith, c.requires)

pub returns-then-fared : goal.returns-then-fared
returns-then-fared c =
    let a = c.args in
    let p = c.play-fared.ensures in
    (moves_not p c.if-fared.true, fares_not (state_of a.frame a.period (servers_of a.words.now) a.whole.now) c.requires p c.if-fared.true)

pub returns-else-fared : goal.returns-else-fared
returns-else-fared c =
    let a = c.args in
    let p = c.play-fared.ensures in
    (moves-one p, fares_one (state_of a.frame a.period (servers_of a.words.now) a.whole.now) c.requires p c.if-fared.false)
