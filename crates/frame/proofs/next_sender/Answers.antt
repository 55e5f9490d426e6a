use mathlib.Core.Path.{refl, sym, ap, subst, ◌∙◌}
use Prim.Native.Nat.{ℕ, ◌<◌}
use native.Mathlib.Omega.{arith}
use lib.ListN.{take, get_or}
use lib.Seq.{get_or-take}
use Rattle.places.specs.declared.Best.{Best}
use Rattle.places.specs.Order.{better_of}
use Rattle.places.proofs.Order.{IsBest, best_none}
use Rattle.frame.proofs.Lookup.{Looking, long, look_begin, best_look}
use Rattle.frame.proofs.next_sender.Goals as goal

pub loop-i-init : goal.loop-i-init
loop-i-init c =
    let a = c.args in
    subst (λ (b : Best). Looking a.ranks.now a.last a.near.now a.m 0 b.place × IsBest a.ranks.now b) (sym c.none-best.ensures) (look_begin, best_none a.ranks.now)

pub loop-i-preserved : goal.loop-i-preserved
loop-i-preserved c =
    let a = c.args in
    let l = c.loop-i in
    let h : l.i-index < a.m = omega (arith, c.loop-i-test.true, long c.requires) in
    let e = c.or-best.ensures in
    let i = get_or (take a.m a.near.now) l.i-index 0 in
    best_look c.requires l.invariant.0 l.invariant.1 h (get_or-take a.m a.near.now l.i-index 0 h) refl
    (e.0 ∙ ap (λ (under : ℕ). better_of under l.best (get_or a.ranks.now i 0) i) c.rank_under-under.ensures, e.1)
