use mathlib.Core.Path.{◌≡◌, refl, ap, ◌∙◌}
use native.Mathlib.Omega.{arith}
use lib.ListN.{length}
use Rattle.places.specs.Words.{servers_of}
use Rattle.frame.specs.Answers.{state_of}
use Rattle.frame.proofs.Faring.{counts-so, counts-over}
use borrow.Author.Rules.{rules}
use Rattle.frame.proofs.count.Goals as goal

pub returns-then-frame-ge4294967295 : goal.returns-then-frame-ge4294967295
returns-then-frame-ge4294967295 c =
    let a = c.args in
    counts-over (state_of a.frame a.period (servers_of a.words.now) a.whole.now) refl c.if-frame-ge4294967295.true

pub loudest-loud-requires : goal.loudest-loud-requires
loudest-loud-requires c = c.still_from-n.ensures

pub play_frame-requires : goal.play_frame-requires
play_frame-requires c =
    (omega (arith, c.if-frame-ge4294967295.false), (c.still_from-n.ensures, c.loudest-loud.ensures))

pub returns : goal.returns
returns c =
    let a = c.args in
    let p = c.play_frame.ensures in
    counts-so (state_of a.frame a.period (servers_of a.words.now) a.whole.now) (omega (arith, c.if-frame-ge4294967295.false)) c.clamp-start.ensures p.0 p.1.servers p.1.out
