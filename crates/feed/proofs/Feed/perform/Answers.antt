use mathlib.Core.Path.{refl, sym, ap, subst, ◌∙◌}
use lib.ListN.{length}
use Rattle.dayline.specs.declared.DayLine.{DayLine}
use Rattle.dayline.specs.DayLine.{of_said}
use Rattle.feeding.specs.Moves.{Move, placed_move}
use Rattle.feeding.specs.Steps.{Sized}
use Rattle.feeding.proofs.Placing.{placed_now}
use Rattle.feed.specs.Answers.{fed_of}
use Rattle.feed.proofs.Making.{does_as}
use Rattle.feed.proofs.Feed.perform.Goals as goal

pub set_period-requires : goal.set_period-requires
set_period-requires c = let s = subst (λ (l : DayLine). Sized (of_said l)) c.in-Period.is c.requires.1 in (c.requires.0, s.0, s.1)

pub returns-in-Period : goal.returns-in-Period
returns-in-Period c l =
    let a = c.args in
    let w = a.words.now in
    let k = a.whole.now in
    let f = fed_of a.self l w k in
    let room = length a.out.now in
    let m : DayLine → Move = λ x. placed_move f room (of_said x) in
    does_as (sym (ap m c.in-Period.is ∙ placed_now f room _ refl)) (c.set_period.ensures l)

pub returns-in-Server : goal.returns-in-Server
returns-in-Server c l =
    let a = c.args in
    let w = a.words.now in
    let k = a.whole.now in
    let f = fed_of a.self l w k in
    let room = length a.out.now in
    let m : DayLine → Move = λ x. placed_move f room (of_said x) in
    does_as (sym (ap m c.in-Server.is ∙ placed_now f room _ refl)) (c.add_server.ensures l)

pub returns-in-Entry : goal.returns-in-Entry
returns-in-Entry c l =
    let a = c.args in
    let w = a.words.now in
    let k = a.whole.now in
    let f = fed_of a.self l w k in
    let room = length a.out.now in
    let m : DayLine → Move = λ x. placed_move f room (of_said x) in
    does_as (sym (ap m c.in-Entry.is)) (c.enter_open.ensures l)

pub returns-in-End : goal.returns-in-End
returns-in-End c l =
    let a = c.args in
    let w = a.words.now in
    let k = a.whole.now in
    let f = fed_of a.self l w k in
    let room = length a.out.now in
    let m : DayLine → Move = λ x. placed_move f room (of_said x) in
    does_as (sym (ap m c.in-End.is)) (c.end_open.ensures l)
