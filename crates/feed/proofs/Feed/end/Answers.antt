use mathlib.Core.Path.{ap}
use native.Mathlib.Omega.{arith}
use lib.ListN.{length}
use Rattle.feeding.proofs.Placing.{end-past, end_later, end-now}
use Rattle.feed.specs.declared.Feed.{Feed}
use Rattle.feed.specs.Answers.{channel_of, fed_of}
use Rattle.feed.proofs.Leaving.{made_close, passes-turned}
use Rattle.feed.proofs.Making.{does_as, does-none}
use Rattle.feed.proofs.Feed.end.Goals as goal

pub returns-then-time-frame : goal.returns-then-time-frame
returns-then-time-frame c l =
    let a = c.args in
    let w = a.words.now in
    let k = a.whole.now in
    let f = fed_of a.self l w k in
    let s = channel_of a.self w k in
    let room = length a.out.now in
    does_as (end-past f room s a.time c.if-time-frame.true) (c.refuse.ensures w k l)

pub returns-then-frame-time : goal.returns-then-frame-time
returns-then-frame-time c l =
    let a = c.args in
    let w = a.words.now in
    let k = a.whole.now in
    let f = fed_of a.self l w k in
    let s = channel_of a.self w k in
    let room = length a.out.now in
    does_as (end_later f room s a.time c.if-frame-time.true) (c.advance.ensures l)

pub returns : goal.returns
returns c l =
    let a = c.args in
    let w = a.words.now in
    let k = a.whole.now in
    let f = fed_of a.self l w k in
    let s = channel_of a.self w k in
    let room = length a.out.now in
    does_as (end-now f room s a.time (omega (arith, c.if-time-frame.false, c.if-frame-time.false))) (does-none (ap (λ (x : Feed). fed_of x l w k) c.turned.ensures) (passes-turned (λ z. z) (λ s. absurd (c.requires.1 s)) made_close c.turned.ensures))
