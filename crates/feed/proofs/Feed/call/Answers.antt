use mathlib.Core.Path.{refl}
use Rattle.places.proofs.Canonical.{becomes-keeps}
use Rattle.feed.proofs.Staging.{call-so, call-not}
use Rattle.feed.proofs.Feed.call.Goals as goal

pub returns-in-Ok : goal.returns-in-Ok
returns-in-Ok c l = let a = c.args in call-so a.self l a.words.now a.whole.now a.verb a.a a.b _ (rw c.in-Ok.is at (c.act.ensures.gives a.self.period)) c.requires.1 (becomes-keeps (c.act.ensures.words a.self.period)).form refl c.turned.ensures

pub returns-in-Err : goal.returns-in-Err
returns-in-Err c l = let a = c.args in call-not a.self l a.words.now a.whole.now a.verb a.a a.b _ (rw c.in-Err.is at (c.act.ensures.gives a.self.period)) refl (c.act.ensures.same _ c.in-Err.is) c.refuse_call.ensures
