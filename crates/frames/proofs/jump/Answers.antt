use mathlib.Core.Path.{refl}
use native.Mathlib.Omega.{arith}
use Rattle.places.specs.Words.{servers_of}
use Rattle.places.proofs.Words.{long_of}
use Rattle.frame.proofs.Loud.{loud_quiet}
use Rattle.frames.proofs.Playing.{jump_none, jump_quiet}
use Rattle.frames.proofs.jump.Goals as goal

pub skipped-requires : goal.skipped-requires
skipped-requires c = c.requires.0

pub returns-then-silent : goal.returns-then-silent
returns-then-silent c =
    let a = c.args in
    jump_quiet a.period (servers_of a.words.now) (loud_quiet (c.requires.1 c.if-silent.true) refl) (long_of a.words.now) c.next_due-first.ensures c.skipped.ensures

pub returns-else-silent : goal.returns-else-silent
returns-else-silent c = let a = c.args in jump_none a.period (servers_of a.words.now) (omega (arith, c.requires.0))
