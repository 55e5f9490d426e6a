use mathlib.Core.Path.{sym}
use native.Mathlib.Omega.{arith}
use borrow.Author.Tests.{ltb-true}
use lib.Dec.{ltb}
use Rattle.lists.proofs.Cases.{chosen, other, fst_true, snd_true}
use Rattle.places.proofs.hears.Goals as goal

pub overflow_mul-result : goal.overflow_mul-result
overflow_mul-result c =
    let a = c.args in
    omega (arith, ltb-true a.i 16 (fst_true (ltb a.i 16) _ c.if-i-j.true), ltb-true a.j 16 (snd_true (ltb a.i 16) _ c.if-i-j.true))

pub overflow_add-result : goal.overflow_add-result
overflow_add-result c =
    let a = c.args in
    omega (arith, ltb-true a.i 16 (fst_true (ltb a.i 16) _ c.if-i-j.true), ltb-true a.j 16 (snd_true (ltb a.i 16) _ c.if-i-j.true))

pub bounds-whole-i : goal.bounds-whole-i
bounds-whole-i c =
    let a = c.args in
    omega (arith, ltb-true a.i 16 (fst_true (ltb a.i 16) _ c.if-i-j.true), ltb-true a.j 16 (snd_true (ltb a.i 16) _ c.if-i-j.true))

pub returns-then-i-j : goal.returns-then-i-j
returns-then-i-j c = sym (chosen _ c.if-i-j.true)

pub returns-else-i-j : goal.returns-else-i-j
returns-else-i-j c = sym (other _ c.if-i-j.false)
