-- A front from a server and a period that were made, or not. Assumes nothing.
use mathlib.Core.Bool.{Bool, false, not, ◌&&◌}
use mathlib.Core.Path.{◌≡◌, sym, ap, ◌∙◌}
use mathlib.Core.Logic.{inl, inr}
use mathlib.Core.List.{[], ◌∷◌, ◌++◌}
use Prim.Native.Nat.{ℕ}
use native.Mathlib.Omega.{arith}
use lib.Dec.{eqb, leb}
use lib.ListN.{get_or}
use Rattle.lists.proofs.Cases.{tested, chosen, other, and_true, and_left, and_right}
use Rattle.refusal.specs.declared.Refusal.{Refusal}
use Rattle.std.specs.Prelude.{Ok, Err}
use Rattle.refusal.specs.Answer.{Answer, accepted, refused, number_of, of_verdict}
use Rattle.refusal.proofs.Answers.{number-some}
use Rattle.server.specs.declared.Made.{Made}
use Rattle.server.specs.declared.Server.{Server}
use Rattle.periods.specs.declared.Period.{Period}
use Rattle.server.specs.Server.{idle, Makes}
use Rattle.periods.specs.Period.{take_period, least_period, greatest_period}
use Rattle.front.specs.Front.{server_numbers, front_numbers, take_front}

abbrev in_range : ℕ → Bool
in_range n = leb least_period n && leb n greatest_period

module _ (i p n : ℕ) (m : Made) (makes : Makes i p m) where
  -- identity 0
  pub no_server_lem : (k : Refusal) → m.verdict ≡ Err k → refused (number_of k) ≡ take_front i p n
  unfolding take_front
  no_server_lem k e =
      elim (tested (eqb i 0)) [
        | inl z ↦ ap refused (sym (ap of_verdict e) ∙ makes.number ∙ chosen _ z) ∙ sym (other _ (and_left _ (ap not z)))
        | inr z ↦ absurd (omega (arith, number-some k, sym (ap of_verdict e) ∙ makes.number ∙ other _ z))
      ]

  module _ (e : m.verdict ≡ Ok tt) where
    some : eqb i 0 ≡ false
    some = elim (tested (eqb i 0)) [ inl z ↦ absurd (omega (arith, sym (ap of_verdict e) ∙ makes.number ∙ chosen _ z)) | inr z ↦ z ]

    -- no such period
    pub no_period : (k : Refusal) → refused (number_of k) ≡ take_period n → refused (number_of k) ≡ take_front i p n
    unfolding take_front take_period
    no_period k h =
        elim (tested (in_range n)) [
          | inl z ↦ absurd (omega (arith, number-some k, ap (λ (a : Answer). a.number) (h ∙ chosen _ z)))
          | inr z ↦ h ∙ other _ z ∙ sym (other _ (and_right (not (eqb i 0)) z))
        ]

    -- both
    pub made : (q : Period) → accepted (q.frames ∷ []) ≡ take_period n → accepted (front_numbers (record { server = m.server; frame = 0; period = q })) ≡ take_front i p n
    unfolding take_front take_period
    made q h =
        elim (tested (in_range n)) [
          | inl z ↦
              ap (λ (s : Server). accepted (server_numbers s ++ (0 ∷ q.frames ∷ []))) (makes.server ∙ other _ some)
              ∙ ap (λ (k : ℕ). accepted (server_numbers (idle i p) ++ (0 ∷ k ∷ []))) (ap (λ (a : Answer). get_or a.values 0 0) (h ∙ chosen _ z))
              ∙ sym (chosen _ (and_true (ap not some) z))
          | inr z ↦ absurd (omega (arith, ap (λ (a : Answer). a.number) (h ∙ other _ z)))
        ]
