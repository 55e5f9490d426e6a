use mathlib.Core.Path.{sym, subst}
use Rattle.frame.specs.Steps.{Still}
use Rattle.places.proofs.Words.{long_of}
use Rattle.places.proofs.Canonical.{keeps_then}
use Rattle.frame.proofs.Unheard.{cleared-still}
use Rattle.frame.proofs.unheard_frame.Goals as goal

pub clear_all-requires : goal.clear_all-requires
clear_all-requires c = c.requires.1

pub tick_all-requires : goal.tick_all-requires
tick_all-requires c =
    let p = c.requires in
    let v = c.clear_all.ensures in
    (p.0, subst (Still c.args.n) (sym v.1) (cleared-still (long_of _) p.1))

pub returns : goal.returns
returns c =
    let a = c.args in
    let t = c.tick_all in
    let p = c.clear_all.ensures in
    (keeps_then p.0 t.ensures.0, rw (sym p.1) t.ensures.1)
