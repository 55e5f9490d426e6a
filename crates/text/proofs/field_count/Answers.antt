use mathlib.Core.Path.{◌≡◌, refl, ◌∙◌}
use mathlib.Core.Logic.{⊎_elim}
use Prim.Native.Nat.{◌<◌}
use native.Mathlib.Omega.{arith}
use borrow.Author.Tests.{eq-eqb, ne_eqb}
use lib.ListN.{get_or, length}
use Rattle.lists.proofs.Cases.{equal}
use Rattle.lists.proofs.Parts.{count-here, count-later, count-end}
use Rattle.text.proofs.field_count.Goals as goal

pub loop-x-init : goal.loop-x-init
loop-x-init c = (omega arith, omega arith)

pub loop-x-preserved : goal.loop-x-preserved
loop-x-preserved c =
    let s = c.args.s.now in
    let i = c.loop-x.x-index in
    let few = c.loop-x.invariant.0 in
    let so_far = c.loop-x.invariant.1 in
    let within : i < length s = c.loop-x-test.true in
    let tab = c.from-n.ensures in
    ⊎_elim
    (λ e. let one : c.from-n.result ≡ 1 = tab ∙ rw (eq-eqb (get_or s i 0) 9 e) refl in let parts = count-here 9 s i within e in (omega arith, omega arith))
    (λ e. let none : c.from-n.result ≡ 0 = tab ∙ rw (ne_eqb (get_or s i 0) 9 e) refl in let parts = count-later 9 s i within e in (omega arith, omega arith))
    (equal (get_or s i 0) 9)

pub returns : goal.returns
returns c = let so_far = c.loop-x.invariant.1 in let parts = count-end 9 c.args.s.now c.loop-x.x-index (omega arith) in omega arith
