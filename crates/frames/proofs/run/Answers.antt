use mathlib.Core.Path.{refl, ap}
use native.Mathlib.Omega.{arith}
use lib.ListN.{length}
use Rattle.group.specs.declared.State.{State}
use Rattle.group.specs.Advance.{time_goes}
use Rattle.places.specs.Words.{servers_of}
use Rattle.frame.specs.Answers.{state_of}
use Rattle.frame.proofs.Telling.{within, too_short, told-all}
use Rattle.places.proofs.Canonical.{keeps-all}
use Rattle.frames.proofs.Moving.{answered, accepted-not}
use Rattle.frames.proofs.Fitting.{all-within}
use Rattle.frames.proofs.run.Goals as goal

pub returns-then-counted-out : goal.returns-then-counted-out
returns-then-counted-out c =
    let a = c.args in
    let s : State = state_of a.frame a.period (servers_of a.words) a.whole.now in
    let g = too_short s (time_goes s a.target) a.out.now refl c.count_all-counted.ensures c.if-counted-out.true in
    record { gives = g; words = answered g keeps-all; same = λ k e. refl }

pub returns : goal.returns
returns c =
    let a = c.args in
    let s : State = state_of a.frame a.period (servers_of a.words) a.whole.now in
    let counted = c.count_all-counted in
    let same = counted.ensures.dry refl in
    let fit = within counted.ensures (omega (arith, c.if-counted-out.false, ap length same)) in
    let p = c.play_within-played.ensures in
    let all = all-within s a.target p.1 (omega (arith, fit.0, ap length same)) in
    let g = told-all s (time_goes s a.target) a.out.now refl counted.ensures c.if-counted-out.false all.1 all.0 in
    record { gives = g; words = answered g p.0.keeps; same = λ k e. accepted-not k e }
