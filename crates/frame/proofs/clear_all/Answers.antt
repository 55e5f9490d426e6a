use mathlib.Core.Path.{subst, sym, ap}
use mathlib.Core.List.{List}
use Prim.Native.Nat.{◌+◌, ◌<◌}
use native.Mathlib.Omega.{arith}
use Rattle.lists.proofs.MapLoop.{Mapped}
use Rattle.lists.proofs.MapLoop as map
use Rattle.server.specs.declared.Server.{Server}
use Rattle.server.specs.Server.{absent, cleared}
use Rattle.places.specs.Words.{servers_of}
use Rattle.frame.specs.Steps.{clearing}
use Rattle.places.proofs.Words.{long_of}
use Rattle.places.proofs.Canonical.{keeps-all, keeps_then}
use Rattle.frame.proofs.Still.{still_clear}
use Rattle.frame.proofs.clear_all.Goals as goal

pub loop-j-init : goal.loop-j-init
loop-j-init c = (keeps-all, map.begin (long_of _))

pub loop-j-preserved : goal.loop-j-preserved
loop-j-preserved c =
    let l = c.loop-j in
    let h : l.j < 16 = omega (arith, c.requires.few, c.loop-j-test.true) in
    let v = c.clear_at.ensures in
    (keeps_then l.invariant.0 v.0, subst (λ (x : List Server). Mapped clearing (servers_of c.args.words.now) 16 (l.j + 1) x) (sym v.1) (map.turn absent l.invariant.1 h (ap cleared (map.ahead absent l.invariant.1 h))))

pub returns : goal.returns
returns c =
    let l = c.loop-j in
    let v = c.requires in
    (l.invariant.0, map.end-early absent l.invariant.1 (λ k g m. still_clear _ (v.still k (omega (arith, g, c.loop-j-test.false)) m)))
