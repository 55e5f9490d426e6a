use mathlib.Core.Path.{refl, sym, ◌∙◌}
use native.Mathlib.Omega.{arith}
use Rattle.feed.specs.Answers.{fed_of}
use Rattle.feed.proofs.Leaving.{not-refused, passes_same}
use Rattle.feed.proofs.Pairing.{follows-none, within, follows-made, follows-not}
use Rattle.feed.proofs.Feed.second.Goals as goal

pub returns-then-not-waits : goal.returns-then-not-waits
returns-then-not-waits c =
    let a = c.args in
    let w = a.words.now in
    let k = a.whole.now in
    let f = fed_of a.self a.line.now w k in
    record { follows = follows-none f a.n a.out.now (sym (c.waits.ensures w k) ∙ c.if-not-waits.true); passes = passes_same; accepted = λ i e. not-refused e }

pub slice_bounds-go-count : goal.slice_bounds-go-count
slice_bounds-go-count c = c.requires.0

pub slice_bounds-go-start : goal.slice_bounds-go-start
slice_bounds-go-start c = c.requires.0

pub slice_bounds-go-end : goal.slice_bounds-go-end
slice_bounds-go-end c = omega arith

pub go-more-requires : goal.go-more-requires
go-more-requires c = c.requires.1

pub overflow_add-result : goal.overflow_add-result
overflow_add-result c =
    let a = c.args in
    let w = a.words.now in
    let k = a.whole.now in
    let f = fed_of a.self a.line.now w k in
    omega (arith, c.requires.0, c.well_formed.1.1.1.1.1.1.0.0, within f a.n a.out.now (sym (c.waits.ensures w k) ∙ c.if-not-waits.false) (c.requires.2 (sym (c.waits.ensures w k) ∙ c.if-not-waits.false)) (c.go-more.ensures a.line.now).makes c.in-Ok.is)

pub returns-in-Ok : goal.returns-in-Ok
returns-in-Ok c =
    let a = c.args in
    let w = a.words.now in
    let k = a.whole.now in
    let f = fed_of a.self a.line.now w k in
    record { follows = follows-made f a.n a.out.now (sym (c.waits.ensures w k) ∙ c.if-not-waits.false) (c.requires.2 (sym (c.waits.ensures w k) ∙ c.if-not-waits.false)) (c.go-more.ensures a.line.now).makes refl c.in-Ok.is; passes = (c.go-more.ensures a.line.now).passes; accepted = λ i e. not-refused e }

pub returns-in-Err : goal.returns-in-Err
returns-in-Err c =
    let a = c.args in
    let w = a.words.now in
    let k = a.whole.now in
    let f = fed_of a.self a.line.now w k in
    record { follows = follows-not f a.n a.out.now (sym (c.waits.ensures w k) ∙ c.if-not-waits.false) (c.requires.2 (sym (c.waits.ensures w k) ∙ c.if-not-waits.false)) (c.go-more.ensures a.line.now).makes refl c.in-Err.is; passes = (c.go-more.ensures a.line.now).passes; accepted = λ i e. not-refused e }
