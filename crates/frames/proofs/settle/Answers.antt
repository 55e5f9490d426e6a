use mathlib.Core.Path.{refl, subst, sym, ap, ◌∙◌}
use mathlib.Core.List.{List}
use Prim.Native.Nat.{◌+◌, ◌<◌}
use native.Mathlib.Omega.{arith}
use lib.ListN.{set}
use Rattle.lists.proofs.MapLoop.{Mapped}
use Rattle.lists.proofs.MapLoop as map
use Rattle.server.specs.declared.Server.{Server}
use Rattle.server.specs.Server.{absent}
use Rattle.places.specs.Words.{servers_of}
use Rattle.frames.specs.Steps.{pulsed}
use Rattle.places.proofs.Words.{long_of}
use Rattle.places.proofs.Canonical.{keeps-all, keeps_then}
use Rattle.frames.proofs.settle.Goals as goal

pub loop-i-init : goal.loop-i-init
loop-i-init c = (keeps-all, map.begin (long_of _))

pub loop-i-preserved : goal.loop-i-preserved
loop-i-preserved c =
    let a = c.args in
    let l = c.loop-i in
    let h : l.i < 16 = omega (arith, c.loop-i-test.true) in
    let p = c.settle_at.ensures in
    (keeps_then l.invariant.0 p.0, subst (λ (x : List Server). Mapped (pulsed a.b a.last) (servers_of a.words.now) 16 (l.i + 1) x) (sym (p.1 ∙ ap (λ (s : Server). set (servers_of l.words) l.i (pulsed a.b a.last l.i s)) (map.ahead absent l.invariant.1 h))) (map.turn absent l.invariant.1 h refl))

pub returns : goal.returns
returns c = (c.loop-i.invariant.0, map.end c.loop-i.invariant.1 c.loop-i-test.false)
