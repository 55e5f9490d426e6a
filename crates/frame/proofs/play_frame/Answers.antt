use Rattle.places.specs.Words.{servers_of}
use Rattle.frame.specs.Answers.{state_of}
use Rattle.places.proofs.Words.{long_of}
use Rattle.frame.proofs.Loud.{loud_quiet}
use Rattle.frame.proofs.Frames.{ticks_run}
use Rattle.frame.proofs.play_frame.Goals as goal

pub tick_all-requires : goal.tick_all-requires
tick_all-requires c = (c.requires.0, c.requires.1.0)

pub heard_frame-requires : goal.heard_frame-requires
heard_frame-requires c = (c.requires.0, c.requires.1.0)

pub returns-then-loud-eq0 : goal.returns-then-loud-eq0
returns-then-loud-eq0 c =
    let a = c.args in
    let p = c.tick_all.ensures in
    (p.0, ticks_run (state_of a.before a.period (servers_of a.words.now) a.whole.now) (loud_quiet c.requires.1.1 c.if-loud-eq0.true) (long_of a.words.now) p.1)

pub returns-else-loud-eq0 : goal.returns-else-loud-eq0
returns-else-loud-eq0 c = c.heard_frame.ensures
