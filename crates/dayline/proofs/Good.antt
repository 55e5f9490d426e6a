-- What fields say where they are good, and where one is not. Assumes nothing.
use mathlib.Core.Path.{◌≡◌, refl, sym, ap, ◌∙◌}
use mathlib.Core.List.{List}
use Prim.Native.Nat.{ℕ}
use native.Mathlib.Omega.{arith}
use borrow.Author.Tests.{ne_eqb}
use Rattle.lists.proofs.Cases.{chosen, other}
use Rattle.refusal.specs.Answer.{Answer, accepted, refused, in_turn, number_of}
use Rattle.refusal.specs.declared.Refusal.{Refusal}
use Rattle.refusal.proofs.Answers.{number-some, turn-refused}
use Rattle.day.specs.Read.{DayLine, wrong, when_good}

module _ (f : List ℕ → DayLine) {a : Answer} where
  pub alike : {b : Answer} → b ≡ a → when_good b f ≡ when_good a f
  alike e = ap (λ (x : Answer). when_good x f) e

  pub good : {vs : List ℕ} → accepted vs ≡ a → f vs ≡ when_good a f
  unfolding when_good
  good {vs} e = sym (chosen (wrong 0) refl) ∙ alike e

  pub bad : (k : Refusal) → refused (number_of k) ≡ a → wrong (number_of k) ≡ when_good a f
  unfolding when_good
  bad k e = sym (other _ (ne_eqb (number_of k) 0 (λ z. omega (arith, number-some k)))) ∙ alike e

-- the first of several is not
pub bad-first : (f : List ℕ → DayLine) {a : Answer} (b : Answer) (k : Refusal) → refused (number_of k) ≡ a → wrong (number_of k) ≡ when_good (in_turn a b) f
bad-first f {a} b k e = bad f k (sym (turn-refused (number_of k) a b (number-some k) (sym e)))
