use mathlib.Core.Path.{refl, sym, ap, ◌∙◌}
use mathlib.Core.List.{[]}
use native.Mathlib.Omega.{arith}
use lib.ListN.{length}
use Rattle.refusal.specs.Answer.{of_verdict}
use Rattle.refusal.proofs.Answers.{number-some}
use Rattle.group.specs.declared.State.{State}
use Rattle.day.specs.Read.{end}
use Rattle.day.specs.Day.{end_effect}
use Rattle.feeding.proofs.Placing.{placed_on, placed_not}
use Rattle.feed.specs.Answers.{channel_of, fed_of}
use Rattle.feed.proofs.Making.{does_as}
use Rattle.feed.proofs.Staging.{open_made, open_channel}
use Rattle.feed.proofs.Feed.end_open.Goals as goal

pub end-requires : goal.end-requires
end-requires c =
    let a = c.args in
    let k = a.whole.now in
    (c.requires, open_made a.self.stage (channel_of a.self a.words.now k) (sym (c.open-verdict.ensures [] k) ∙ ap of_verdict c.in-Ok.is))

pub returns-in-Ok : goal.returns-in-Ok
returns-in-Ok c l =
    let a = c.args in
    let w = a.words.now in
    let k = a.whole.now in
    let f = fed_of a.self l w k in
    let s = channel_of a.self w k in
    let room = length a.out.now in
    let z = sym (c.open-verdict.ensures l k) ∙ ap of_verdict c.in-Ok.is in
    does_as (placed_on f room (end a.time) (λ (s : State). end_effect s a.time) refl z (open_channel a.self.stage s z)) (c.end.ensures l)

pub returns-in-Err : goal.returns-in-Err
returns-in-Err c l =
    let a = c.args in
    let w = a.words.now in
    let k = a.whole.now in
    let f = fed_of a.self l w k in
    let s = channel_of a.self w k in
    let room = length a.out.now in
    does_as (placed_not f room (end a.time) (λ (s : State). end_effect s a.time) refl (sym (c.open-verdict.ensures l k) ∙ ap of_verdict c.in-Err.is) (λ z. omega (arith, number-some c.in-Err.k))) (c.stop.ensures w k l)
