use mathlib.Core.Path.{refl}
use Rattle.group.specs.declared.State.{State}
use Rattle.places.specs.Words.{servers_of}
use Rattle.frame.specs.Answers.{state_of}
use Rattle.places.proofs.Canonical.{keeps-all}
use Rattle.frames.proofs.Moving.{answered, accepted-not}
use Rattle.frames.proofs.Fitting.{no_frame, within-short, within-fits, quiet-fits}
use Rattle.frames.proofs.run_within.Goals as goal

pub returns-then-nothing_until : goal.returns-then-nothing_until
returns-then-nothing_until c =
    let a = c.args in
    let q = c.nothing_until.ensures c.if-nothing_until.true in
    let g = quiet-fits a.frame a.period a.words.now a.whole.now a.target a.out.now q.0 q.1 in
    record { gives = g; words = answered g keeps-all; same = λ k e. refl }

pub returns-then-frame-target : goal.returns-then-frame-target
returns-then-frame-target c =
    let a = c.args in
    let s : State = state_of a.frame a.period (servers_of a.words.now) a.whole.now in
    let p = c.play_within-played.ensures in
    let g = within-short s a.target p.1 c.if-frame-target.true in
    record { gives = g; words = answered g p.0.keeps; same = λ k e. p.0.same (no_frame a.frame a.target _ c.if-frame-target.true) }

pub returns : goal.returns
returns c =
    let a = c.args in
    let s : State = state_of a.frame a.period (servers_of a.words.now) a.whole.now in
    let p = c.play_within-played.ensures in
    let g = within-fits s a.target p.1 c.if-frame-target.false in
    record { gives = g; words = answered g p.0.keeps; same = λ k e. accepted-not k e }
