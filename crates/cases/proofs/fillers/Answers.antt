use mathlib.Core.Path.{◌≡◌, refl, ap, ◌∙◌}
use mathlib.Core.Logic.{⊎_elim}
use Prim.Native.Nat.{ℕ, ◌+◌}
use native.Mathlib.Omega.{arith}
use borrow.Author.Tests.{eq-eqb, ne_eqb}
use lib.Dec.{eqb}
use lib.ListN.{get_or, drop}
use Rattle.lists.proofs.Cases.{equal, chosen, other}
use Rattle.cases.specs.Cases.{fillers}
use Rattle.cases.proofs.Filling as filling
use Rattle.cases.proofs.fillers.Goals as goal

pub loop-x-init : goal.loop-x-init
loop-x-init c = (omega arith, omega arith)

pub loop-x-preserved : goal.loop-x-preserved
loop-x-preserved c =
    let s = c.args.s.now in
    let i = c.loop-x.x-index in
    let few = c.loop-x.invariant.0 in
    let so_far = c.loop-x.invariant.1 in
    let next = filling.turn s i c.loop-x-test.true in
    let filler = c.from-n.ensures in
    ⊎_elim
    (λ e.
    let one : c.from-n.result ≡ 1 = filler ∙ rw (eq-eqb (get_or s i 0) 35 e) refl in
    let here : fillers (drop i s) ≡ 1 + fillers (drop (i + 1) s) = next ∙ ap (λ (k : ℕ). k + fillers (drop (i + 1) s)) (chosen _ (eq-eqb (get_or s i 0) 35 e)) in
    (omega (arith, one, few), omega (arith, one, so_far, here)))
    (λ e.
    let none : c.from-n.result ≡ 0 = filler ∙ rw (ne_eqb (get_or s i 0) 35 e) refl in
    let here : fillers (drop i s) ≡ 0 + fillers (drop (i + 1) s) = next ∙ ap (λ (k : ℕ). k + fillers (drop (i + 1) s)) (other _ (ne_eqb (get_or s i 0) 35 e)) in
    (omega (arith, none, few), omega (arith, none, so_far, here)))
    (equal (get_or s i 0) 35)

pub returns : goal.returns
returns c = let so_far = c.loop-x.invariant.1 in let past = filling.end c.args.s.now c.loop-x.x-index (omega arith) in omega arith
