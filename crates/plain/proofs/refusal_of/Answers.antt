use mathlib.Core.Path.{◌≡◌, sym, ◌∙◌}
use native.Mathlib.Omega.{arith}
use borrow.Author.Tests.{ne_eqb}
use Rattle.lists.specs.Choice.{choose}
use Rattle.lists.proofs.Cases.{other}
use Rattle.plain.specs.Numbers.{refusal_of}
use Rattle.plain.proofs.refusal_of.Goals as goal

pub returns-in-1 : goal.returns-in-1
unfolding refusal_of choose
returns-in-1 c = rw c.in-1.is

pub returns-in-2 : goal.returns-in-2
unfolding refusal_of choose
returns-in-2 c = rw c.in-2.is

pub returns-in-3 : goal.returns-in-3
unfolding refusal_of choose
returns-in-3 c = rw c.in-3.is

pub returns-in-4 : goal.returns-in-4
unfolding refusal_of choose
returns-in-4 c = rw c.in-4.is

pub returns-in-5 : goal.returns-in-5
unfolding refusal_of choose
returns-in-5 c = rw c.in-5.is

pub returns-in-6 : goal.returns-in-6
unfolding refusal_of choose
returns-in-6 c = rw c.in-6.is

pub returns-in-7 : goal.returns-in-7
unfolding refusal_of choose
returns-in-7 c = rw c.in-7.is

pub returns-in-8 : goal.returns-in-8
unfolding refusal_of choose
returns-in-8 c = rw c.in-8.is

pub returns-in-9 : goal.returns-in-9
unfolding refusal_of choose
returns-in-9 c = rw c.in-9.is

pub returns-in-11 : goal.returns-in-11
unfolding refusal_of choose
returns-in-11 c = rw c.in-11.is

pub returns-in-12 : goal.returns-in-12
unfolding refusal_of choose
returns-in-12 c = rw c.in-12.is

pub returns-in-13 : goal.returns-in-13
unfolding refusal_of choose
returns-in-13 c = rw c.in-13.is

pub returns-in-14 : goal.returns-in-14
unfolding refusal_of choose
returns-in-14 c = rw c.in-14.is

pub returns-in-15 : goal.returns-in-15
unfolding refusal_of choose
returns-in-15 c = rw c.in-15.is

pub returns-in_default : goal.returns-in_default
unfolding refusal_of
returns-in_default c =
    let n = c.args.n in
    let not_1 : n ≡ 1 → ⊥ = omega arith in
    let not_2 : n ≡ 2 → ⊥ = omega arith in
    let not_3 : n ≡ 3 → ⊥ = omega arith in
    let not_4 : n ≡ 4 → ⊥ = omega arith in
    let not_5 : n ≡ 5 → ⊥ = omega arith in
    let not_6 : n ≡ 6 → ⊥ = omega arith in
    let not_7 : n ≡ 7 → ⊥ = omega arith in
    let not_8 : n ≡ 8 → ⊥ = omega arith in
    let not_9 : n ≡ 9 → ⊥ = omega arith in
    let not_11 : n ≡ 11 → ⊥ = omega arith in
    let not_12 : n ≡ 12 → ⊥ = omega arith in
    let not_13 : n ≡ 13 → ⊥ = omega arith in
    let not_14 : n ≡ 14 → ⊥ = omega arith in
    let not_15 : n ≡ 15 → ⊥ = omega arith in
    sym
    (other _ (ne_eqb _ _ not_1)
    ∙ other _ (ne_eqb _ _ not_2)
    ∙ other _ (ne_eqb _ _ not_3)
    ∙ other _ (ne_eqb _ _ not_4)
    ∙ other _ (ne_eqb _ _ not_5)
    ∙ other _ (ne_eqb _ _ not_6)
    ∙ other _ (ne_eqb _ _ not_7)
    ∙ other _ (ne_eqb _ _ not_8)
    ∙ other _ (ne_eqb _ _ not_9)
    ∙ other _ (ne_eqb _ _ not_11)
    ∙ other _ (ne_eqb _ _ not_12)
    ∙ other _ (ne_eqb _ _ not_13)
    ∙ other _ (ne_eqb _ _ not_14)
    ∙ other _ (ne_eqb _ _ not_15))
