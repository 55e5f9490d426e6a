use mathlib.Core.Path.{refl}
use Rattle.verbs.proofs.Acting.{told-short, told-all}
use Rattle.verbs.proofs.say.Goals as goal

pub returns-then-written-room : goal.returns-then-written-room
returns-then-written-room c s o e f = told-short s o e (rw f c.say-written.ensures) c.if-written-room.true

pub returns-else-written-room : goal.returns-else-written-room
returns-else-written-room c s o e f = told-all s o e (rw f c.say-written.ensures) c.if-written-room.false
