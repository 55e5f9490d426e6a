use mathlib.Core.Path.{refl, sym, ap, ◌∙◌}
use lib.ListN.{length}
use Rattle.places.specs.Words.{servers_of}
use Rattle.frame.specs.Answers.{state_of}
use Rattle.frame.proofs.Faring.{plays-so, plays-not}
use Rattle.frame.proofs.play_fitting.Goals as goal

pub frame_fits-requires : goal.frame_fits-requires
frame_fits-requires c = c.requires

pub play_frame-after-requires : goal.play_frame-after-requires
play_frame-after-requires c = c.requires.1

pub returns-then-frame_fits : goal.returns-then-frame_fits
returns-then-frame_fits c =
    let a = c.args in
    let ch = state_of a.frame a.period (servers_of a.words.now) a.whole.now in
    let f = c.frame_fits.ensures in
    let p = c.play_frame-after.ensures in
    plays-so ch c.requires.1.0 c.requires.0 (sym f.0 ∙ c.if-frame_fits.true) p.0 p.1.servers (rw f.1 at p.1.out)

pub shape_of-out-else-frame_fits : goal.shape_of-out-else-frame_fits
shape_of-out-else-frame_fits c = ap length c.frame_fits.ensures.1

pub returns-else-frame_fits : goal.returns-else-frame_fits
returns-else-frame_fits c =
    let a = c.args in
    let ch = state_of a.frame a.period (servers_of a.words.now) a.whole.now in
    let f = c.frame_fits.ensures in
    rw f.1 (plays-not ch refl (sym f.0 ∙ c.if-frame_fits.false))
