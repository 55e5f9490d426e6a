use mathlib.Core.Path.{refl, sym, subst, ◌∙◌}
use lib.ListN.{length}
use Rattle.feeding.specs.Steps.{Sized}
use Rattle.feeding.proofs.Sizing.{read_sized}
use Rattle.feeding.proofs.Laws.{step-idle, step_is}
use Rattle.feed.specs.Answers.{fed_of}
use Rattle.feed.proofs.Leaving.{passes_same}
use Rattle.feed.proofs.Making.{does_as, does-none}
use Rattle.feed.proofs.Pairing.{makes_in}
use Rattle.feed.proofs.Feed.step.Goals as goal

pub returns-then-not-waits : goal.returns-then-not-waits
returns-then-not-waits c =
    let a = c.args in
    let l = a.line.now in
    let w = a.words.now in
    let k = a.whole.now in
    let f = fed_of a.self l w k in
    let room = length a.out.now in
    makes_in (does_as (sym (step-idle f (sym (c.waits.ensures w k) ∙ c.if-not-waits.true) room)) (does-none refl passes_same))

pub go-requires : goal.go-requires
go-requires c = subst Sized (sym c.read-read.ensures) (read_sized _)

pub returns : goal.returns
returns c =
    let a = c.args in
    let l = a.line.now in
    let w = a.words.now in
    let k = a.whole.now in
    let f = fed_of a.self l w k in
    let room = length a.out.now in
    makes_in (does_as (step_is f room (sym (c.waits.ensures w k) ∙ c.if-not-waits.false) c.read-read.ensures) (c.go.ensures l))
