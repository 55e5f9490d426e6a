use mathlib.Core.Path.{refl, subst, sym}
use mathlib.Core.List.{List}
use Prim.Native.Nat.{◌+◌, ◌<◌}
use native.Mathlib.Omega.{arith}
use Rattle.lists.proofs.MapLoop.{Mapped}
use Rattle.lists.proofs.MapLoop as map
use Rattle.server.specs.declared.Server.{Server}
use Rattle.server.specs.Server.{absent}
use Rattle.places.specs.Words.{servers_of}
use Rattle.frame.specs.Steps.{ticked}
use Rattle.places.proofs.Words.{long_of}
use Rattle.places.proofs.Canonical.{keeps-all, keeps_then}
use Rattle.frame.proofs.Writing as out
use Rattle.frame.proofs.Frames.{ticks-more, ticks_as}
use Rattle.frame.proofs.Still.{still-ticked, ticks-early}
use Rattle.frame.proofs.tick_all.Goals as goal

pub loop-j-init : goal.loop-j-init
loop-j-init c = (keeps-all, (map.begin (long_of _), out.begin refl))

pub loop-j-preserved : goal.loop-j-preserved
loop-j-preserved c =
    let a = c.args in
    let l = c.loop-j in
    let h : l.j < 16 = omega (arith, c.requires.1.few, c.loop-j-test.true) in
    let p = c.tick_at-r.ensures in
    let q = ticks_as (map.ahead absent l.invariant.1.0 h) p.1 in (
      keeps_then l.invariant.0 p.0,
      (
        subst (λ (x : List Server). Mapped (ticked (a.before + 1) a.period) (servers_of a.words.now) 16 (l.j + 1) x) (sym q.0) (map.turn absent l.invariant.1.0 h refl),
        out.turn l.invariant.1.1 (ticks-more (a.before + 1) a.period (servers_of a.words.now) l.j absent (rw (long_of a.words.now) h)) c.tick_at-r.auto.out q.1,
      ),
    )

pub returns : goal.returns
returns c =
    let a = c.args in
    let l = c.loop-j in
    let v = c.requires.1 in (
      l.invariant.0,
      record {
        servers = map.end-early absent l.invariant.1.0 (λ k g m. (still-ticked _ (v.still k (omega (arith, g, c.loop-j-test.false)) m) (a.before + 1) a.period (omega arith)).0);
        out = out.finish l.invariant.1.1 (ticks-early v (long_of a.words.now) l.j c.loop-j-test.false (a.before + 1) a.period (omega arith));
      },
    )
