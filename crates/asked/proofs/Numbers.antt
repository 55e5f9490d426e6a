-- Numbers of a line. Assumes nothing.
use Rattle.std.specs.Prelude.{Result, Ok, Err, Some, None}
use mathlib.Core.Path.{◌≡◌, sym, ap, ◌∙◌}
use mathlib.Core.List.{List}
use Prim.Native.Nat.{ℕ, ◌≤◌}
use native.Mathlib.Omega.{arith}
use borrow.Author.Tests.{ne_eqb}
use Rattle.lists.specs.Choice.{choose}
use Rattle.lists.proofs.Cases.{other}
use Rattle.refusal.specs.declared.Refusal.{Refusal}
use Rattle.refusal.specs.Answer.{number_of}
use Rattle.refusal.proofs.Answers.{number-some}
use Rattle.text.specs.Number.{of_number, read_number}
use Rattle.text.proofs.Reading.{number-within}
use Rattle.asked.specs.Lines.{of_answer, number_in}

module _ (greatest : ℕ) (s : List ℕ) {a : Result ℕ Refusal} (e : of_number a ≡ read_number 0 greatest s) where
  pub number_is : (n : ℕ) → a ≡ Ok n → (Some n ≡ number_in greatest s) × (n ≤ greatest)
  unfolding choose
  number_is n q = (ap of_answer (sym (ap of_number q) ∙ e), (number-within _ _ _ _ (sym (ap of_number q) ∙ e)).1)

  pub number_not : (k : Refusal) → a ≡ Err k → None ≡ number_in greatest s
  number_not k q =
      sym (other _ (ne_eqb (number_of k) 0 (λ z. omega (arith, number-some k)))) ∙ ap of_answer (sym (ap of_number q) ∙ e)
