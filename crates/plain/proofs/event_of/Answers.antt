use mathlib.Core.Path.{◌≡◌, sym, ◌∙◌}
use native.Mathlib.Omega.{arith}
use borrow.Author.Tests.{ne_eqb}
use Rattle.lists.specs.Choice.{choose}
use Rattle.lists.proofs.Cases.{other}
use Rattle.plain.specs.Numbers.{event_of}
use Rattle.plain.proofs.event_of.Goals as goal

pub returns-in-0 : goal.returns-in-0
unfolding event_of choose
returns-in-0 c = rw c.in-0.is

pub returns-in-1 : goal.returns-in-1
unfolding event_of choose
returns-in-1 c = rw c.in-1.is

pub returns-in-2 : goal.returns-in-2
unfolding event_of choose
returns-in-2 c = rw c.in-2.is

pub returns-in-3 : goal.returns-in-3
unfolding event_of choose
returns-in-3 c = rw c.in-3.is

pub returns-in-4 : goal.returns-in-4
unfolding event_of choose
returns-in-4 c = rw c.in-4.is

pub returns-in-5 : goal.returns-in-5
unfolding event_of choose
returns-in-5 c = rw c.in-5.is

pub returns-in-6 : goal.returns-in-6
unfolding event_of choose
returns-in-6 c = rw c.in-6.is

pub returns-in-7 : goal.returns-in-7
unfolding event_of choose
returns-in-7 c = rw c.in-7.is

pub returns-in-8 : goal.returns-in-8
unfolding event_of choose
returns-in-8 c = rw c.in-8.is

pub returns-in-9 : goal.returns-in-9
unfolding event_of choose
returns-in-9 c = rw c.in-9.is

pub returns-in-10 : goal.returns-in-10
unfolding event_of choose
returns-in-10 c = rw c.in-10.is

pub returns-in_default : goal.returns-in_default
unfolding event_of
returns-in_default c =
    let n = c.args.n in
    let not_0 : n ≡ 0 → ⊥ = omega arith in
    let not_1 : n ≡ 1 → ⊥ = omega arith in
    let not_2 : n ≡ 2 → ⊥ = omega arith in
    let not_3 : n ≡ 3 → ⊥ = omega arith in
    let not_4 : n ≡ 4 → ⊥ = omega arith in
    let not_5 : n ≡ 5 → ⊥ = omega arith in
    let not_6 : n ≡ 6 → ⊥ = omega arith in
    let not_7 : n ≡ 7 → ⊥ = omega arith in
    let not_8 : n ≡ 8 → ⊥ = omega arith in
    let not_9 : n ≡ 9 → ⊥ = omega arith in
    let not_10 : n ≡ 10 → ⊥ = omega arith in
    sym
    (other _ (ne_eqb _ _ not_0)
    ∙ other _ (ne_eqb _ _ not_1)
    ∙ other _ (ne_eqb _ _ not_2)
    ∙ other _ (ne_eqb _ _ not_3)
    ∙ other _ (ne_eqb _ _ not_4)
    ∙ other _ (ne_eqb _ _ not_5)
    ∙ other _ (ne_eqb _ _ not_6)
    ∙ other _ (ne_eqb _ _ not_7)
    ∙ other _ (ne_eqb _ _ not_8)
    ∙ other _ (ne_eqb _ _ not_9)
    ∙ other _ (ne_eqb _ _ not_10))
