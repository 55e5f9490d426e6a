use mathlib.Core.Path.{refl, sym, ap, ◌∙◌}
use Prim.Native.Nat.{ℕ}
use native.Mathlib.Omega.{arith}
use Rattle.server.specs.Timers.{aged}
use Rattle.lists.proofs.Cases.{clash, fst_true, snd_true, not_so}
use Rattle.server.specs.Server.{sent_by}
use Rattle.frame.proofs.Hearings.{just_listens}
use Rattle.places.proofs.Order.{hears-at}
use Rattle.frame.proofs.Lookup.{only-heard}
use Rattle.frame.proofs.just_listens.Goals as goal

pub offset_bounds-ranks-i : goal.offset_bounds-ranks-i
offset_bounds-ranks-i c = omega (arith, c.requires.1.listed.places 0 (omega (arith, c.if-count-eq1.true)))

pub bounds-ranks-i : goal.bounds-ranks-i
bounds-ranks-i c = omega (arith, c.requires.1.listed.places 0 (omega (arith, c.if-count-eq1.true)))

pub offset_bounds-sendings-i : goal.offset_bounds-sendings-i
offset_bounds-sendings-i c = omega (arith, c.requires.1.listed.places 0 (omega (arith, c.if-count-eq1.true)))

pub bounds-sendings-i : goal.bounds-sendings-i
bounds-sendings-i c = omega (arith, c.requires.1.listed.places 0 (omega (arith, c.if-count-eq1.true)))

pub sender-from-requires : goal.sender-from-requires
sender-from-requires c = let v = c.requires.1 in let i = v.listed.places 0 (omega (arith, c.if-count-eq1.true)) in (v.ranks _ i, v.sendings _ i)

pub returns-then-count-eq1 : goal.returns-then-count-eq1
returns-then-count-eq1 c e =
    let a = c.args in
    let x = c.sender-from.result in
    let v = c.requires in
    let one = c.if-count-eq1.true in
    let heard = c.hears in
    let first = sym (heard.ensures ∙ hears-at a.whole.now a.j _ (v.1.listed.places 0 (omega (arith, one))) v.0) ∙ fst_true heard.result _ e in
    let rest = snd_true heard.result _ e in
    let only = fst_true c.only_listens.result _ rest in
    let age = not_so c.aged.result (snd_true c.only_listens.result _ rest) in
    just_listens a.frame a.period a.s x (sym c.only_listens.ensures ∙ only) (sym (c.aged.ensures ∙ ap (λ (n : ℕ). aged a.frame n a.frame) c.silence_limit.ensures) ∙ age)
    (only-heard (record { places = a.listed.now; ranks = a.ranks.now; sendings = a.sendings.now; count = a.count }) a.whole.now a.j v.1 one first ∙ sym (ap sent_by c.sender-from.ensures))

pub returns-else-count-eq1 : goal.returns-else-count-eq1
returns-else-count-eq1 c e = absurd (clash e refl)
