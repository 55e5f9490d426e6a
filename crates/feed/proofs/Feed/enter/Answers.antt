use mathlib.Core.Path.{sym, ◌∙◌}
use native.Mathlib.Omega.{arith}
use lib.ListN.{length}
use Rattle.feeding.proofs.Placing.{entry-unknown, entry_past, entry-later, entry-now}
use Rattle.feed.specs.Answers.{channel_of, fed_of}
use Rattle.feed.proofs.Making.{does_as}
use Rattle.feed.proofs.Feed.enter.Goals as goal

pub returns-then-not-knows : goal.returns-then-not-knows
returns-then-not-knows c l =
    let a = c.args in
    let w = a.words.now in
    let k = a.whole.now in
    let f = fed_of a.self l w k in
    let s = channel_of a.self w k in
    let room = length a.out.now in
    does_as (entry-unknown f room s a.time a.verb a.a a.b (sym (c.knows.ensures a.self.frame a.self.period k) ∙ c.if-not-knows.true)) (c.stop.ensures w k l)

pub returns-then-time-self : goal.returns-then-time-self
returns-then-time-self c l =
    let a = c.args in
    let w = a.words.now in
    let k = a.whole.now in
    let f = fed_of a.self l w k in
    let s = channel_of a.self w k in
    let room = length a.out.now in
    does_as (entry_past f room s a.time a.verb a.a a.b (sym (c.knows.ensures a.self.frame a.self.period k) ∙ c.if-not-knows.false) c.if-time-self.true) (c.refuse.ensures w k l)

pub returns-then-self-time : goal.returns-then-self-time
returns-then-self-time c l =
    let a = c.args in
    let w = a.words.now in
    let k = a.whole.now in
    let f = fed_of a.self l w k in
    let s = channel_of a.self w k in
    let room = length a.out.now in
    does_as (entry-later f room s a.time a.verb a.a a.b (sym (c.knows.ensures a.self.frame a.self.period k) ∙ c.if-not-knows.false) c.if-self-time.true) (c.advance.ensures l)

pub returns : goal.returns
returns c l =
    let a = c.args in
    let w = a.words.now in
    let k = a.whole.now in
    let f = fed_of a.self l w k in
    let s = channel_of a.self w k in
    let room = length a.out.now in
    does_as (entry-now f room s a.time a.verb a.a a.b (sym (c.knows.ensures a.self.frame a.self.period k) ∙ c.if-not-knows.false) (omega (arith, c.if-time-self.false, c.if-self-time.false))) (c.call.ensures l)
