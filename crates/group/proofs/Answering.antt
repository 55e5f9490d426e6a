-- What calls answer. Assumes nothing.
use Rattle.std.specs.Prelude.{Result, Ok, Err}
use mathlib.Core.Bool.{true, false}
use mathlib.Core.Path.{◌≡◌, sym, ap, subst, ◌∙◌}
use mathlib.Core.List.{List}
use Prim.Native.Nat.{ℕ, ◌≤◌, ◌<◌}
use native.Mathlib.Omega.{arith}
use borrow.Author.Tests.{eq-eqb, ne_eqb, le-leb, lt-leb}
use lib.Dec.{eqb}
use lib.ListN.{length}
use Rattle.lists.specs.Splice.{splice}
use Rattle.lists.proofs.Cases.{chosen, other}
use Rattle.refusal.specs.declared.Refusal.{Refusal}
use Rattle.refusal.specs.Answer.{number_of}
use Rattle.refusal.proofs.Answers.{number-some}
use Rattle.group.specs.declared.State.{State}
use Rattle.group.specs.Outcome.{Outcome, number_in, channel_in, written_in, slice_in}
use Rattle.group.specs.Answers.{Gives}

-- ---- the number that a call gets

module _ (o : Outcome) (n : ℕ) where
  pub has-number : (k : Refusal) → o.number ≡ number_of k → number_in o n ≡ number_of k
  unfolding number_in
  has-number k e = other _ (ne_eqb o.number 0 (λ z. omega (arith, number-some k))) ∙ e

  pub is-short : o.number ≡ 0 → n < length o.lines → number_in o n ≡ 9
  unfolding number_in
  is-short e h = chosen _ (eq-eqb _ 0 e) ∙ other _ (lt-leb _ _ h)

  pub is-long : o.number ≡ 0 → length o.lines ≤ n → number_in o n ≡ 0
  unfolding number_in
  is-long e h = chosen _ (eq-eqb _ 0 e) ∙ chosen _ (le-leb _ _ h)

-- ---- the answer of a call that gets a number, and of one that does not

module _ (c : State) (o : Outcome) (d : List ℕ) where
  pub gives-not : (k : Refusal) → number_in o (length d) ≡ number_of k → Gives c o d (Err k) 0 c d
  unfolding channel_in written_in slice_in
  gives-not k e =
      let some : eqb (number_in o (length d)) 0 ≡ false = ne_eqb (number_in o (length d)) 0 (λ z. omega (arith, number-some k)) in
      record { number = sym e; written = sym (other _ some); channel = sym (other _ some); slice = sym (other _ some) }

  -- where the call gets a number by itself
  pub gives-refused : (k : Refusal) → o.number ≡ number_of k → Gives c o d (Err k) 0 c d
  gives-refused k e = gives-not k (has-number o (length d) k e)

  pub gives_so :
      {n : ℕ} {x : State} {d' : List ℕ} → number_in o (length d) ≡ 0 → n ≡ length o.lines → x ≡ o.channel → d' ≡ splice d 0 o.lines →
      Gives c o d (Ok tt) n x d'
  unfolding channel_in written_in slice_in
  gives_so e p q s =
      let none : eqb (number_in o (length d)) 0 ≡ true = eq-eqb _ 0 e in
      record { number = sym e; written = p ∙ sym (chosen _ none); channel = q ∙ sym (chosen _ none); slice = s ∙ sym (chosen _ none) }

-- the same outcome, worked out in another way
pub gives_as :
    {c : State} {o p : Outcome} {d : List ℕ} {v : Result (Unit {0}) Refusal} {n : ℕ} {x : State} {d' : List ℕ} → o.number ≡ p.number → o.lines ≡ p.lines → o.channel ≡ p.channel →
    Gives c o d v n x d' → Gives c p d v n x d'
gives_as {c} {o} {p} {d} {v} {n} {x} {d'} a b e g =
    subst (λ (y : Outcome). Gives c y d v n x d')
    (ap (λ (m : ℕ). record { number = m; lines = o.lines; channel = o.channel }) a
    ∙ ap (λ (w : List ℕ). record { number = p.number; lines = w; channel = o.channel }) b
    ∙ ap (λ (y : State). record { number = p.number; lines = p.lines; channel = y }) e)
    g
