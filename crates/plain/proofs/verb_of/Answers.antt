use mathlib.Core.Path.{◌≡◌, sym, ◌∙◌}
use native.Mathlib.Omega.{arith}
use borrow.Author.Tests.{ne_eqb}
use Rattle.lists.specs.Choice.{choose}
use Rattle.lists.proofs.Cases.{other}
use Rattle.plain.specs.Numbers.{verb_of}
use Rattle.plain.proofs.verb_of.Goals as goal

pub returns-in-0 : goal.returns-in-0
unfolding verb_of choose
returns-in-0 c = rw c.in-0.is

pub returns-in-1 : goal.returns-in-1
unfolding verb_of choose
returns-in-1 c = rw c.in-1.is

pub returns-in-2 : goal.returns-in-2
unfolding verb_of choose
returns-in-2 c = rw c.in-2.is

pub returns-in-3 : goal.returns-in-3
unfolding verb_of choose
returns-in-3 c = rw c.in-3.is

pub returns-in-4 : goal.returns-in-4
unfolding verb_of choose
returns-in-4 c = rw c.in-4.is

pub returns-in-5 : goal.returns-in-5
unfolding verb_of choose
returns-in-5 c = rw c.in-5.is

pub returns-in-6 : goal.returns-in-6
unfolding verb_of choose
returns-in-6 c = rw c.in-6.is

pub returns-in_default : goal.returns-in_default
unfolding verb_of
returns-in_default c =
    let n = c.args.n in
    let not_0 : n ≡ 0 → ⊥ = omega arith in
    let not_1 : n ≡ 1 → ⊥ = omega arith in
    let not_2 : n ≡ 2 → ⊥ = omega arith in
    let not_3 : n ≡ 3 → ⊥ = omega arith in
    let not_4 : n ≡ 4 → ⊥ = omega arith in
    let not_5 : n ≡ 5 → ⊥ = omega arith in
    let not_6 : n ≡ 6 → ⊥ = omega arith in
    sym
    (other _ (ne_eqb _ _ not_0)
    ∙ other _ (ne_eqb _ _ not_1)
    ∙ other _ (ne_eqb _ _ not_2)
    ∙ other _ (ne_eqb _ _ not_3)
    ∙ other _ (ne_eqb _ _ not_4)
    ∙ other _ (ne_eqb _ _ not_5)
    ∙ other _ (ne_eqb _ _ not_6))
