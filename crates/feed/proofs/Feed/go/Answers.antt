use Rattle.std.specs.Prelude.{Result}
use mathlib.Core.Path.{refl, sym, ap, subst, ◌∙◌}
use lib.ListN.{length}
use Rattle.refusal.specs.declared.Refusal.{Refusal}
use Rattle.dayline.specs.declared.DayLine.{DayLine}
use Rattle.feeding.specs.Moves.{Move, line_move}
use Rattle.feeding.specs.Steps.{Sized}
use Rattle.dayline.specs.DayLine.{of_day_line}
use Rattle.feeding.proofs.Placing.{placed_line, placed_now, beyond-line}
use Rattle.feed.specs.Answers.{fed_of}
use Rattle.feed.proofs.Making.{does_as}
use Rattle.feed.proofs.Feed.go.Goals as goal

pub returns-then-self-gt-LINES : goal.returns-then-self-gt-LINES
returns-then-self-gt-LINES c l =
    let a = c.args in
    let w = a.words.now in
    let k = a.whole.now in
    does_as (beyond-line (fed_of a.self l w k) (length a.out.now) (of_day_line a.line) c.if-self-gt-LINES.true c.beyond.ensures) (c.stop.ensures w k l)

pub perform-requires : goal.perform-requires
perform-requires c = (c.if-self-gt-LINES.false, subst (λ (l : Result DayLine Refusal). Sized (of_day_line l)) c.in-Ok.is c.requires)

pub returns-in-Ok : goal.returns-in-Ok
returns-in-Ok c l =
    let a = c.args in
    let f = fed_of a.self l a.words.now a.whole.now in
    let room = length a.out.now in
    let m : Result DayLine Refusal → Move = λ x. line_move f room (of_day_line x) in
    does_as (placed_line f room _ c.if-self-gt-LINES.false ∙ sym (ap m c.in-Ok.is)) (c.perform.ensures l)

pub returns-in-Err : goal.returns-in-Err
returns-in-Err c l =
    let a = c.args in
    let w = a.words.now in
    let k = a.whole.now in
    let f = fed_of a.self l w k in
    let room = length a.out.now in
    let m : Result DayLine Refusal → Move = λ x. line_move f room (of_day_line x) in
    does_as (sym (ap m c.in-Err.is ∙ sym (placed_line f room _ c.if-self-gt-LINES.false) ∙ placed_now f room _ refl)) (c.stop-in-Err.ensures w k l)
