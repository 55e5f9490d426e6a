use mathlib.Core.Path.{◌≡◌, refl, ap, ◌∙◌}
use native.Mathlib.Omega.{arith}
use lib.ListN.{length}
use Rattle.places.specs.Words.{servers_of}
use Rattle.frame.specs.Answers.{state_of}
use Rattle.frame.proofs.Faring.{plays-over, plays-beyond}
use borrow.Author.Rules.{rules}
use Rattle.frame.proofs.play.Goals as goal

pub returns-then-frame-ge4294967295 : goal.returns-then-frame-ge4294967295
returns-then-frame-ge4294967295 c =
    let a = c.args in
    plays-over (state_of a.frame a.period (servers_of a.words.now) a.whole.now) refl c.if-frame-ge4294967295.true

pub returns-then-at-out : goal.returns-then-at-out
returns-then-at-out c =
    let a = c.args in
    plays-beyond (state_of a.frame a.period (servers_of a.words.now) a.whole.now) refl c.if-at-out.true

pub loudest-loud-requires : goal.loudest-loud-requires
loudest-loud-requires c = c.still_from-n.ensures

pub play_fitting-requires : goal.play_fitting-requires
play_fitting-requires c =
    (omega (arith, c.if-at-out.false), (omega (arith, c.if-frame-ge4294967295.false), (c.still_from-n.ensures, c.loudest-loud.ensures)))

pub returns : goal.returns
returns c = c.play_fitting.ensures
