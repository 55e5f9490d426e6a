-- A period that was made, or not. Assumes nothing.
use mathlib.Core.Path.{◌≡◌, sym, ap, ◌∙◌}
use mathlib.Core.List.{[], ◌∷◌}
use Prim.Native.Nat.{ℕ}
use Rattle.lists.proofs.Cases.{chosen, other}
use Rattle.refusal.specs.declared.Refusal.{Refusal}
use Rattle.refusal.specs.Answer.{accepted, refused, number_of}
use Rattle.refusal.proofs.Answers.{took, declined}
use Rattle.periods.specs.declared.Period.{Period}
use Rattle.periods.specs.Period.{take_period, shortest}
use Rattle.plain.specs.Numbers.{is_period, period_of}

pub period-made : (n : ℕ) (q : Period) → accepted (q.frames ∷ []) ≡ take_period n → q ≡ period_of n
unfolding take_period period_of
period-made n q e = let t = took (is_period n) n 2 (sym e) in ap (λ (k : ℕ). record { frames = k }) (sym t.1) ∙ sym (chosen _ t.0)

pub period-refused : (n : ℕ) (k : Refusal) → refused (number_of k) ≡ take_period n → shortest ≡ period_of n
unfolding take_period period_of
period-refused n k e = let t = declined (is_period n) n 2 (sym e) in sym (other _ t.0)
