use mathlib.Core.Path.{refl, sym, subst, ◌∙◌}
use native.Mathlib.Omega.{arith}
use lib.ListN.{length}
use Rattle.feeding.specs.Steps.{Sized}
use Rattle.feeding.proofs.Sizing.{read_sized}
use Rattle.feeding.proofs.Laws.{step_is, pairs-idle}
use Rattle.feed.specs.Answers.{fed_of}
use Rattle.feed.proofs.Leaving.{passes_same, passes_then}
use Rattle.feed.proofs.Making.{makes_as, does_as, does-none}
use Rattle.feed.proofs.Pairing.{makes_in, made, still, pairs_made, pairs-refused}
use Rattle.feed.proofs.Feed.steps.Goals as goal

pub returns-then-not-waits : goal.returns-then-not-waits
returns-then-not-waits c =
    let a = c.args in
    let l = a.line.now in
    let w = a.words.now in
    let k = a.whole.now in
    let f = fed_of a.self l w k in
    let room = length a.out.now in
    makes_in (does_as (pairs-idle f (sym (c.waits.ensures w k) ∙ c.if-not-waits.true) room) (does-none refl passes_same))

pub go-first-requires : goal.go-first-requires
go-first-requires c = subst Sized (sym c.read-read.ensures) (read_sized _)

pub second-requires : goal.second-requires
second-requires c =
    let a = c.args in
    let l = a.line.now in
    let q = (c.go-first.ensures l).makes in
    let r = made q c.in-Ok.is in
    (omega (arith, r.end, r.fits, c.go-first.auto.out), subst Sized (sym c.read-read.ensures) (read_sized _), λ e. still q c.in-Ok.is c.read-read.ensures e)

pub returns-in-Ok : goal.returns-in-Ok
returns-in-Ok c =
    let a = c.args in
    let l = a.line.now in
    let w = a.words.now in
    let k = a.whole.now in
    let f = fed_of a.self l w k in
    let room = length a.out.now in
    let q = c.go-first.ensures l in
    let v = c.second.ensures in
    makes_in (record { makes = pairs_made (makes_as (step_is f room (sym (c.waits.ensures w k) ∙ c.if-not-waits.false) c.read-read.ensures) q.makes) c.in-Ok.is v.follows; passes = passes_then q.passes v.passes; same = λ i e. absurd (v.accepted i e) })

pub returns-in-Err : goal.returns-in-Err
returns-in-Err c =
    let a = c.args in
    let l = a.line.now in
    let w = a.words.now in
    let k = a.whole.now in
    let f = fed_of a.self l w k in
    let room = length a.out.now in
    let q = c.go-first.ensures l in
    makes_in (record { makes = pairs-refused (makes_as (step_is f room (sym (c.waits.ensures w k) ∙ c.if-not-waits.false) c.read-read.ensures) q.makes) c.in-Err.is; passes = q.passes; same = λ i e. q.same _ c.in-Err.is })
