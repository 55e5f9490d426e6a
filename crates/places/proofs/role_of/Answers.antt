use mathlib.Core.Path.{◌≡◌, sym, ◌∙◌}
use borrow.Author.Tests.{ne_eqb}
use Rattle.lists.specs.Choice.{choose}
use Rattle.lists.proofs.Cases.{other}
use Rattle.places.specs.Words.{role_of}
use native.Mathlib.Omega.{arith}
use Rattle.places.proofs.role_of.Goals as goal

pub returns-in-0 : goal.returns-in-0
unfolding role_of choose
returns-in-0 c = rw c.in-0.is

pub returns-in-1 : goal.returns-in-1
unfolding role_of choose
returns-in-1 c = rw c.in-1.is

pub returns-in-2 : goal.returns-in-2
unfolding role_of choose
returns-in-2 c = rw c.in-2.is

pub returns-in-3 : goal.returns-in-3
unfolding role_of choose
returns-in-3 c = rw c.in-3.is

pub returns-in-4 : goal.returns-in-4
unfolding role_of choose
returns-in-4 c = rw c.in-4.is

pub returns-in_default : goal.returns-in_default
unfolding role_of
returns-in_default c =
    let n = c.args.n in
    let not_0 : n ≡ 0 → ⊥ = omega arith in
    let not_1 : n ≡ 1 → ⊥ = omega arith in
    let not_2 : n ≡ 2 → ⊥ = omega arith in
    let not_3 : n ≡ 3 → ⊥ = omega arith in
    let not_4 : n ≡ 4 → ⊥ = omega arith in
    sym (other _ (ne_eqb _ _ not_0) ∙ other _ (ne_eqb _ _ not_1) ∙ other _ (ne_eqb _ _ not_2) ∙ other _ (ne_eqb _ _ not_3) ∙ other _ (ne_eqb _ _ not_4))
