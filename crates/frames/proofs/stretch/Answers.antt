use native.Mathlib.Omega.{arith}
use Rattle.places.specs.Words.{servers_of}
use Rattle.frame.specs.Answers.{state_of}
use Rattle.frames.proofs.Moving.{moves-none, moves-then}
use Rattle.frames.proofs.Fitting.{stretch_fares, stretch_jump}
use Rattle.frames.proofs.stretch.Goals as goal

pub jump-start-requires : goal.jump-start-requires
jump-start-requires c = (c.requires.1, c.nobody_sent-silent.ensures)

pub returns-then-start-target : goal.returns-then-start-target
returns-then-start-target c =
    let a = c.args in
    let p = c.requires in
    (moves-none c.jump-start.ensures.from, stretch_jump (state_of a.frame a.period (servers_of a.words.now) a.whole.now) c.jump-start.ensures p.0 p.1 c.if-start-target.true)

pub calm-b-requires : goal.calm-b-requires
calm-b-requires c = c.nobody_sent-silent.ensures

pub beat_along-requires : goal.beat_along-requires
beat_along-requires c =
    let p = c.requires in
    (p.0, ((p.1, c.if-start-target.false), (c.jump-start.ensures, c.calm-b.ensures c.if-b-lt-SERVERS.true)))

pub play_fitting-requires : goal.play_fitting-requires
play_fitting-requires c = omega (arith, c.if-start-target.false)

pub returns-then-b-lt-SERVERS : goal.returns-then-b-lt-SERVERS
returns-then-b-lt-SERVERS c = c.beat_along.ensures

pub returns-else-b-lt-SERVERS : goal.returns-else-b-lt-SERVERS
returns-else-b-lt-SERVERS c =
    let a = c.args in
    let p = c.play_fitting.ensures in
    let j = c.jump-start.ensures in
    (moves-then (moves-none j.from) p.0, stretch_fares (state_of a.frame a.period (servers_of a.words.now) a.whole.now) j c.requires.0 c.if-start-target.false p.1)
