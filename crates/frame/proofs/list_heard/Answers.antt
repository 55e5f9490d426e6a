use mathlib.Core.Bool.{Bool}
use mathlib.Core.Path.{ap, ◌∙◌}
use Prim.Native.Nat.{◌<◌}
use native.Mathlib.Omega.{arith}
use lib.Seq.{get_or-take}
use Rattle.lists.specs.Choice.{choose}
use Rattle.places.proofs.Order.{hears-at}
use Rattle.frame.proofs.Lookup.{long, near_begin, near_turn}
use Rattle.frame.proofs.list_heard.Goals as goal

pub loop-i-init : goal.loop-i-init
loop-i-init c = near_begin c.requires.1.1

pub loop-i-preserved : goal.loop-i-preserved
loop-i-preserved c =
    let a = c.args in
    let v = c.requires.1.0 in
    let l = c.loop-i in
    let h : l.i-index < a.count = omega (arith, c.loop-i-test.true, long v) in
    let same = get_or-take a.count a.listed.now l.i-index 0 h in
    let hears = rw same at c.hears.ensures in
    rw same (near_turn v l.invariant h (c.one_for-m.ensures ∙ ap (λ (b : Bool). choose b 1 0) (hears ∙ hears-at a.whole.now _ _ (v.places l.i-index h) c.requires.0)))

pub overflow_add-m : goal.overflow_add-m
overflow_add-m c = omega (arith, (loop-i-preserved c).few, (loop-i-preserved c).within)
